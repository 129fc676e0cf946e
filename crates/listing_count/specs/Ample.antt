-- When lent bytes suffice for any listing of so many words, so that none is counted.
-- Assumes nothing.
use Rattle.std.specs.Prelude.{ℕ, Bool, ◌&&◌, leb}
use Rattle.listing_count.specs.Parts.{most_bytes}

-- at most six conditions, at most a million words of a table and of a frame list, and as many bytes as a listing of
-- these has at most
unfoldable pub ample : ℕ → ℕ → ℕ → ℕ → Bool
ample lent conditions words framewords = leb conditions 6 && (leb words 1000000 && (leb framewords 1000000 && leb (most_bytes words framewords) lent))
