-- The entries of a row among the entries of a table.
-- Assumes nothing.
use Rattle.std.specs.Prelude.{◌≡◌, ℕ, ◌+◌, ◌*◌, ◌/◌, ◌<◌, List, length, get_or, drop}
use Rattle.model.specs.Table.{entries_of}
use Rattle.model.specs.Lookup.{before_row, run_of_row}

-- n entries of words, whose rows are the numbers that `told` relates to theirs
pub record RowsOf (told : ℕ → ℕ → Type 0) (n : ℕ) (words : List ℕ) : Type 0 where
  pub count : n ≡ length words / 5
  pub rows : (i r : ℕ) → i < n → told i r → r ≡ get_or words (i * 5) 0

-- a row's entries begin with entry `first` and end before entry `end`
pub record RangeOf (words : List ℕ) (row first end : ℕ) : Type 0 where
  pub begins : first ≡ before_row row (entries_of words)
  pub ends : end ≡ first + run_of_row row (drop first (entries_of words))
