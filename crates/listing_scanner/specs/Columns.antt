-- What the answers for a column stand for.
-- Assumes nothing.
use Rattle.std.specs.Prelude.{ℕ, ◌+◌, ◌*◌, ◌≤◌, ◌≡◌, List, length, drop, Option, None, Some}
use Rattle.text_grammar.specs.Parse.{none, got}
use Rattle.listing_grammar.specs.Parse.{Column, name_at}
use Rattle.text_scanner.specs.Place.{Place, nowhere, found}
use Rattle.listing_scanner.specs.declared.columns.ColumnSofar.{ColumnSofar}

abbrev pub column : Option ColumnSofar → Place Column
column None = nowhere
column (Some s) = found (record { known = s.known; values = s.values }) s.at

-- what a column is once condition k is read: as it was where k is not named, or with its bit and its value
pub data Stepped (text : List ℕ) (k bit : ℕ) (s r : ColumnSofar) : Type 0 where
  not_named : name_at k (drop s.at text) ≡ none → r ≡ s → Stepped text k bit s r
  is_named : (v : ℕ) → v ≤ 1 → name_at k (drop s.at text) ≡ got v (drop r.at text) → r.at ≤ length text →
      r.known ≡ s.known + bit → r.values ≡ s.values + v * bit → Stepped text k bit s r
