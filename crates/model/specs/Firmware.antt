-- Document 01, "Table and frame list": the kernel lookup as the firmware calls it from C.
-- Assumes nothing.
use Rattle.std.specs.Prelude.{ℕ, ◌+◌, ◌-◌, ◌*◌, ◌≡◌, List, [], ◌∷◌}
use Rattle.model.specs.Lookup.{Found, entry, none, refusal, lookup}
use Rattle.model.specs.Text.{Reading, reads, not_read, AnswersText}

-- "words little-endian", and "stray last words or bytes are ignored"
abbrev pub words_of : List ℕ → List ℕ
words_of [] = []
words_of (a ∷ []) = []
words_of (a ∷ b ∷ []) = []
words_of (a ∷ b ∷ c ∷ []) = []
words_of (a ∷ b ∷ c ∷ d ∷ bytes) = (a + 256 * b + 65536 * c + 16777216 * d) ∷ words_of bytes

-- The 64-bit number in which the C function answers: an entry's number; none is the greatest, and refusal n is n below
-- it. (A table of 2^64 bytes would have fewer than 2^60 entries.)
unfoldable pub found_number : Found → ℕ
found_number (entry i) = i
found_number none = 18446744073709551615
found_number (refusal n) = 18446744073709551615 - n

-- "The firmware calls the lookup from C with numbers and byte slices, the plan as its text, words little-endian":
-- refusal 1 to 9 of the text, or what the lookup finds, as one number.
unfoldable pub found_in : Reading → List ℕ → ℕ → ℕ → ℕ → ℕ → ℕ → Found
found_in (not_read r) table n t h v from = refusal r
found_in (reads p) table n t h v from = lookup p (words_of table) n t h v from

pub record AnswersLookup (plan table : List ℕ) (n t h v from answer : ℕ) : Type 0 where
  pub reading : Reading
  pub of_text : AnswersText plan reading
  pub is_found : answer ≡ found_number (found_in reading table n t h v from)
