-- Where a part of a lent slice lies.
-- Assumes nothing.
use Rattle.std.specs.Prelude.{ℕ, ◌+◌, ◌*◌}

-- The place that lies n 32-bit words, four bytes each, past another: a place is a block of memory and a number of bytes
-- into it.
abbrev pub words_on : ℕ × ℕ → ℕ → ℕ × ℕ
words_on place n = (place.0, place.1 + n * 4)
