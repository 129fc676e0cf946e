-- A plan text read and written again: the answer, and the lent bytes afterwards.
-- Assumes nothing.
use Rattle.std.specs.Prelude.{ℕ, ◌≡◌, List, length}
use Rattle.model.specs.Text.{Reading, reads, not_read, AnswersText, not_written, write_plan, bytes_after}
use Rattle.model.specs.Text as m
use Rattle.c_words.specs.Numbers.{written_number}

-- what a text that was read is written as, given how many bytes are lent
unfoldable pub copy : Reading → ℕ → m.Written
copy (reads p) lent = write_plan p lent
copy (not_read n) lent = not_written n

pub record Copies (text before after : List ℕ) (answer : ℕ) : Type 0 where
  pub reading : Reading
  pub of_text : AnswersText text reading
  pub number : answer ≡ written_number (copy reading (length before))
  pub bytes : after ≡ bytes_after (copy reading (length before)) before
