-- The words of a table: five to an entry, for entries that stand as numbers in an array, row r's from place ends[r] up
-- to place ends[r + 1].
-- Assumes nothing.
use Rattle.std.specs.Prelude.{ℕ, ◌+◌, ◌/◌, ◌%◌, ◌^◌, ◌<◌, ◌≤◌, ◌≡◌, List, [], ◌∷◌, length, get_or}
use Rattle.std.proofs.Math.Seq.{slice}
use Rattle.limits.specs.Limits.{ENTRIES}
use Rattle.lists.specs.Lists.{each, below}

-- the five words of an entry: row, known, values, tick, place
abbrev pub five : ℕ → ℕ → List ℕ
five row x = row ∷ x / 4096 % 64 ∷ x / 64 % 64 ∷ x / 262144 ∷ x % 64 ∷ []

-- the numbers of a row's entries, and the words of the entries of all rows
abbrev pub row_part : List ℕ → List ℕ → ℕ → List ℕ
row_part list ends r = slice (get_or ends r 0) (get_or ends (r + 1) 0) list

unfoldable pub table : List ℕ → List ℕ → ℕ → List ℕ
table list ends rows = each (λ r. each (five r) (row_part list ends r)) (below rows)

-- The rows' entries stand one after another from the first place on, and their ticks are small.
pub record Laid (list ends : List ℕ) (rows : ℕ) : Type 0 where
  pub long : length list ≡ ENTRIES
  pub start : get_or ends 0 0 ≡ 0
  pub rising : (r : ℕ) → r < rows → get_or ends r 0 ≤ get_or ends (r + 1) 0
  pub inside : get_or ends rows 0 ≤ ENTRIES
  pub small : (i : ℕ) → i < get_or ends rows 0 → get_or list i 0 < 2 ^ 48
