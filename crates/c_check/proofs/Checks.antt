-- A table is answered by what the text reads as and what the checker finds, in both cases of the reader's answer.
-- Assumes nothing.
use mathlib.Core.Path.{◌≡◌, refl, ap, ◌∙◌}
use mathlib.Core.List.{List}
use Prim.Native.Nat.{ℕ, ◌-◌}
use Rattle.std.specs.Prelude.{Result}
use Rattle.model.specs.Plan.{Lines}
use Rattle.model.specs.Refusals.{Refusal, nothing, refused}
use Rattle.model.specs.Text.{reads, not_read, AnswersText}
use Rattle.model.specs.Firmware.{words_of}
use Rattle.model.specs.Checking.{table_refusal}
use Rattle.checker_table.specs.Verdict.{answer_of}
use Rattle.c_check.specs.Checks.{checked_of, checked_number, checked_answer, Checks}

pub same_number : (x : Refusal) → checked_answer (answer_of x) ≡ checked_number x
unfolding answer_of checked_number
same_number nothing = refl
same_number (refused n) = refl

module _ {text : List ℕ} (table : List ℕ) (delay answer : ℕ) where
  pub refused_checks : (k : ℕ) → AnswersText text (not_read k) → answer ≡ 18446744073709551615 - k → Checks text table delay answer
  unfolding checked_of checked_number
  refused_checks k told q = record { reading = not_read k; of_text = told; number = q }

  pub read_checks : (p : Lines) (c : Result (Unit {0}) ℕ) → AnswersText text (reads p) → c ≡ answer_of (table_refusal p (words_of table) delay) → answer ≡ checked_answer c →
      Checks text table delay answer
  unfolding checked_of
  read_checks p c told q a =
      record {
        reading = reads p;
        of_text = told;
        number = a ∙ ap checked_answer q ∙ same_number (table_refusal p (words_of table) delay);
      }
