-- A text's listing is that of what it reads as, in both cases of the reader's answer.
-- Assumes nothing.
use mathlib.Core.Path.{◌≡◌, refl}
use mathlib.Core.List.{List}
use Prim.Native.Nat.{ℕ}
use lib.ListN.{length}
use Rattle.std.specs.Prelude.{Result, Err}
use Rattle.model.specs.Plan.{Lines}
use Rattle.model.specs.Text.{reads, not_read, AnswersText, bytes_after}
use Rattle.model.specs.Listing.{list_plan, list_reading}
use Rattle.refusals.specs.declared.Refusal.{Refusal}
use Rattle.refusals.specs.Numbers.{number_of, numbered}
use Rattle.text_lines.specs.Answer.{answer_of}
use Rattle.program.specs.Listing.{ListsPlan}

module _ {text : List ℕ} (before : List ℕ) where
  pub refused_lists : (k : Refusal) → AnswersText text (not_read (number_of k)) → ListsPlan text before before (Err k)
  unfolding list_reading bytes_after
  refused_lists k told = record { reading = not_read (number_of k); of_text = told; answer = refl; bytes = refl }

  pub read_lists : (p : Lines) (after : List ℕ) (r : Result ℕ Refusal) → AnswersText text (reads p) → numbered r ≡ answer_of (list_plan p (length before)) →
      after ≡ bytes_after (list_plan p (length before)) before → ListsPlan text before after r
  unfolding list_reading
  read_lists p after r told a b = record { reading = reads p; of_text = told; answer = a; bytes = b }
