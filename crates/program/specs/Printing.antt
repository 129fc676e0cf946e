-- What the planning program prints for a text: the text reads as something, which document 01 fixes, and what is
-- printed for that stands at the front of the lent bytes.
-- Assumes nothing.
use Rattle.std.specs.Prelude.{ℕ, ◌≡◌, List, length}
use Rattle.lists.specs.Front.{front}
use Rattle.model.specs.Text.{Reading, AnswersText}
use Rattle.model.specs.Listing.{program_prints}

pub record Prints (text before after : List ℕ) (count : ℕ) : Type 0 where
  pub reading : Reading
  pub of_text : AnswersText text reading
  pub counted : count ≡ length (program_prints reading)
  pub bytes : after ≡ front (program_prints reading) before
