-- A part of a list by its place and length: one of the arrays that stand one behind the other in a single one.
-- Assumes nothing.
use Rattle.std.specs.Prelude.{ℕ, List, take, drop}

-- the n numbers of a list from a place on
unfoldable pub cut : List ℕ → ℕ → ℕ → List ℕ
cut s a n = take n (drop a s)
