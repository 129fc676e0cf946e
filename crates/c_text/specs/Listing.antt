-- The listing of a text's plan in lent bytes: the number answered, and the lent bytes afterwards.
-- Assumes nothing.
use Rattle.std.specs.Prelude.{ℕ, ◌≡◌, List, length}
use Rattle.model.specs.Text.{Reading, AnswersText, bytes_after}
use Rattle.model.specs.Listing.{list_reading}
use Rattle.c_words.specs.Numbers.{written_number}

pub record Lists (text before after : List ℕ) (answer : ℕ) : Type 0 where
  pub reading : Reading
  pub of_text : AnswersText text reading
  pub number : answer ≡ written_number (list_reading reading (length before))
  pub bytes : after ≡ bytes_after (list_reading reading (length before)) before
