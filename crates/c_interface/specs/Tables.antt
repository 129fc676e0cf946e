-- A plan text read and planned: the number answered, and what the bytes lent for the table, the frame list and the
-- totals hold afterwards.
-- Assumes nothing.
use Rattle.std.specs.Prelude.{ℕ, ◌-◌, ◌*◌, ◌/◌, ◌≡◌, List, length}
use Rattle.model.specs.Text.{Reading, reads, not_read, AnswersText}
use Rattle.model.specs.Table.{Answer, turned_down, made, entry_words, plan_answer}
use Rattle.c_plan.specs.Filled.{Filled}

-- the planner's answer for what was read, given how many words are lent for entries and for frames
unfoldable pub planned_of : Reading → ℕ → ℕ → Answer
planned_of (reads p) words room = plan_answer p words room
planned_of (not_read n) words room = turned_down n

-- the number in which that is answered: how many bytes the table has, or the refusal
unfoldable pub table_number : Answer → ℕ
table_number (turned_down n) = 18446744073709551615 - n
table_number (made r) = 4 * length (entry_words r.entries)

-- an answer of the planner, put into lent bytes, and the number answered for it
pub record Puts (a : Answer) (table frames totals table-now frames-now totals-now : List ℕ) (answer : ℕ) : Type 0 where
  pub number : answer ≡ table_number a
  pub bytes : Filled a table frames totals table-now frames-now totals-now

pub record Tables (text table frames totals table-now frames-now totals-now : List ℕ) (answer : ℕ) : Type 0 where
  pub reading : Reading
  pub of_text : AnswersText text reading
  pub puts : Puts (planned_of reading (length table / 4) (length frames / 4)) table frames totals table-now frames-now totals-now answer
