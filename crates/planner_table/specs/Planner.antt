-- What the planner answers and writes, in the words of the model.
-- Assumes nothing.
use Rattle.std.specs.Prelude.{Result, Ok, Err, ℕ, ◌+◌, ◌*◌, ◌<◌, ◌≡◌, List, map, length, get_or}
use Rattle.std.proofs.Math.Seq.{slice}
use Rattle.model.specs.Plan.{Lines}
use Rattle.model.specs.Bus.{rows}
use Rattle.model.specs.Refusals.{nothing, plan_refusal}
use Rattle.model.specs.Table.{Answer, turned_down, made, plans, row_entries, result, entry_words, frame_words, plan_answer, table_after, frames_after, counts_after}
use Rattle.plan_index.specs.declared.PlanIndex.{PlanIndex}
use Rattle.plan_layout.specs.Indexed.{Indexed}
use Rattle.table_entries.specs.Logs.{Logs}
use Rattle.table_entries.specs.Words.{Laid, table}
use Rattle.table_frames.specs.Packed.{packed_entry}
use Rattle.planner_combinations.specs.declared.Totals.{Totals}
use Rattle.planner_combinations.specs.Combinations.{PlannedAll}
use Rattle.refusals.specs.declared.Refusal.{Refusal}
use Rattle.refusals.specs.Numbers.{numbered}
use Rattle.planner_table.specs.declared.Made.{Made}

-- The answer in memory: a refusal's number, or how many words of the table and of the frame list are written, and the
-- worst delay.
unfoldable pub answer_of : Answer → Result Made ℕ
answer_of (turned_down n) = Err n
answer_of (made r) =
    Ok (record { words = length (entry_words r.entries); framewords = length (frame_words r.frames); delay = r.delay })

-- a plan index of some plan in which refusals 2 to 9 find nothing, whose logs the arrays hold
pub record SomeLogs (b : PlanIndex) (comes place since : List ℕ) : Type 0 where
  pub plan : Lines
  pub passes : plan_refusal plan ≡ nothing
  pub indexed : Indexed plan b
  pub logged : Logs plan comes place since b.span

-- the same with the totals of all combinations
pub record SomePlans (b : PlanIndex) (t : Totals) (comes place since : List ℕ) : Type 0 where
  pub plan : Lines
  pub passes : plan_refusal plan ≡ nothing
  pub indexed : Indexed plan b
  pub all : PlannedAll plan b.span t comes place since

-- The entries of the plan's table stand in an array as numbers, row after row; `count` of them in all.
pub record Entered (p : Lines) (list ends : List ℕ) (count : ℕ) : Type 0 where
  pub laid : Laid list ends (rows p)
  pub last : get_or ends (rows p) 0 ≡ count
  pub words : entry_words (result p).entries ≡ table list ends (rows p)
  pub counted : length (entry_words (result p).entries) ≡ 5 * count
  pub parts : (q : ℕ) → q < rows p → slice (get_or ends q 0) (get_or ends (q + 1) 0) list ≡ map packed_entry (row_entries p (plans p) q)

-- The planner's answer, and what the words lent for the table, the frame list and the counts of the nodes hold after
-- it.
pub record Answers (p : Lines) (r : Result Made Refusal) (table frames passed table-now frames-now passed-now : List ℕ) : Type 0 where
  pub answer : numbered r ≡ answer_of (plan_answer p (length table) (length frames))
  pub words : table-now ≡ table_after (plan_answer p (length table) (length frames)) table
  pub frame_words : frames-now ≡ frames_after (plan_answer p (length table) (length frames)) frames
  pub counts : passed-now ≡ counts_after (plan_answer p (length table) (length frames)) passed
