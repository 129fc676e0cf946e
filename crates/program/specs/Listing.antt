-- The listing of a text's plan in lent bytes: the answer, and the lent bytes afterwards.
-- Assumes nothing.
use Rattle.std.specs.Prelude.{ℕ, ◌≡◌, List, Result, ltb, length}
use Rattle.limits.specs.Limits.{PRINTEDFRAMEWORDS}
use Rattle.model.specs.Refusals.{nothing, sentence}
use Rattle.model.specs.Text.{Reading, AnswersText, Written, unless_refused, bytes_after}
use Rattle.model.specs.Listing.{list_reading}
use Rattle.refusals.specs.declared.Refusal.{Refusal}
use Rattle.refusals.specs.Numbers.{numbered}
use Rattle.text_lines.specs.Answer.{answer_of}

-- a listing of so many words of frames put into as many bytes as are lent: 10, then 11
unfoldable pub listed_in : ℕ → ℕ → List ℕ → Written
listed_in lent framewords bytes =
    unless_refused (sentence 10 (ltb lent (length bytes)) (sentence 11 (ltb PRINTEDFRAMEWORDS framewords) nothing)) bytes

pub record ListsPlan (text before after : List ℕ) (r : Result ℕ Refusal) : Type 0 where
  pub reading : Reading
  pub of_text : AnswersText text reading
  pub answer : numbered r ≡ answer_of (list_reading reading (length before))
  pub bytes : after ≡ bytes_after (list_reading reading (length before)) before
