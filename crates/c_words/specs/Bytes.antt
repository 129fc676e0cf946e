-- Words of 32 bits as bytes, four a word, the lowest first. The words of bytes are the model's `words_of`.
-- Assumes nothing.
use Rattle.std.specs.Prelude.{ℕ, ◌/◌, ◌%◌, List, [], ◌∷◌}
use Rattle.lists.specs.Lists.{each}

-- the four bytes of a word
unfoldable pub word_bytes : ℕ → List ℕ
word_bytes w = (w % 256) ∷ (w / 256 % 256) ∷ (w / 65536 % 256) ∷ (w / 16777216 % 256) ∷ []

-- the bytes of words, one word after another
unfoldable pub bytes_of : List ℕ → List ℕ
bytes_of words = each word_bytes words
