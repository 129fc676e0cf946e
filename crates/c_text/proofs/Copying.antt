-- A text that is read and written again is answered as document 01 says, in both cases of the reader's answer.
-- Assumes nothing.
use mathlib.Core.Path.{◌≡◌, refl, ap, ◌∙◌}
use mathlib.Core.List.{List}
use Prim.Native.Nat.{ℕ, ◌-◌}
use lib.ListN.{length}
use Rattle.std.specs.Prelude.{Result}
use Rattle.model.specs.Plan.{Lines}
use Rattle.model.specs.Text.{reads, not_read, AnswersText, wrote, not_written, write_plan, bytes_after}
use Rattle.model.specs.Text as m
use Rattle.text_lines.specs.Answer.{answer_of}
use Rattle.c_words.specs.Numbers.{answer_number, written_number}
use Rattle.c_text.specs.Copy.{copy, Copies}

-- the number answered is that of what was written
pub same_number : (w : m.Written) → answer_number (answer_of w) ≡ written_number w
unfolding written_number
same_number (wrote bytes) = refl
same_number (not_written n) = refl

module _ (text before : List ℕ) where
  pub refused_copies : (n answer : ℕ) → AnswersText text (not_read n) → answer ≡ 18446744073709551615 - n → Copies text before before answer
  unfolding copy written_number bytes_after
  refused_copies n answer told q = record { reading = not_read n; of_text = told; number = q; bytes = refl }

  pub read_copies : (p : Lines) (after : List ℕ) (r : Result ℕ ℕ) (answer : ℕ) → AnswersText text (reads p) → r ≡ answer_of (write_plan p (length before)) →
      after ≡ bytes_after (write_plan p (length before)) before → answer ≡ answer_number r → Copies text before after answer
  unfolding copy
  read_copies p after r answer told q b n =
      record {
        reading = reads p;
        of_text = told;
        number = n ∙ ap answer_number q ∙ same_number (write_plan p (length before));
        bytes = b;
      }
