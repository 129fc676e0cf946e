-- A plan text read, and a start table checked for it with a stated delay: the number answered.
-- Assumes nothing.
use Rattle.std.specs.Prelude.{ℕ, ◌-◌, ◌≡◌, List, Result, Ok, Err}
use Rattle.model.specs.Refusals.{Refusal, nothing, refused}
use Rattle.model.specs.Text.{Reading, reads, not_read, AnswersText}
use Rattle.model.specs.Firmware.{words_of}
use Rattle.model.specs.Checking.{table_refusal}

-- the first refusal: of the text, or of the table whose bytes are lent and the delay stated for it
unfoldable pub checked_of : Reading → List ℕ → ℕ → Refusal
checked_of (not_read n) table delay = refused n
checked_of (reads p) table delay = table_refusal p (words_of table) delay

-- the number in which that is answered
unfoldable pub checked_number : Refusal → ℕ
checked_number nothing = 0
checked_number (refused n) = 18446744073709551615 - n

-- the same of the checker's answer
abbrev pub checked_answer : Result (Unit {0}) ℕ → ℕ
checked_answer (Ok x) = 0
checked_answer (Err n) = 18446744073709551615 - n

pub record Checks (text table : List ℕ) (delay answer : ℕ) : Type 0 where
  pub reading : Reading
  pub of_text : AnswersText text reading
  pub number : answer ≡ checked_number (checked_of reading table delay)
