-- The conditions known by the rows of a combination, read off the one array that these stand in.
-- Assumes nothing.
use mathlib.Core.Path.{◌≡◌, ap, ◌∙◌}
use mathlib.Core.List.{List}
use Prim.Native.Nat.{ℕ, ◌+◌, ◌≤◌}
use native.Mathlib.Omega.{arith}
use lib.ListN.{get_or}
use Rattle.log_rows.specs.Rows.{rows_of}
use Rattle.lists.proofs.Cutting.{at_field}
use Rattle.log_queries.specs.Reading.{known_by}
use Rattle.log_queries.proofs.Readings.{known_same}

pub known_rows : (s : List ℕ) (base conditions u : ℕ) → base + conditions ≤ 198 → known_by s (192 + base) conditions u ≡ known_by (rows_of s).comes base conditions u
unfolding rows_of
known_rows s base conditions u l =
    known_same s (rows_of s).comes (192 + base) base conditions u
    (λ k m. let q : 192 + base + k ≡ 192 + (base + k) = omega arith in ap (λ (j : ℕ). get_or s j 0) q ∙ at_field s 192 198 (base + k) (omega (arith, l, m)))
