-- `log_queries::known` meets its contract: six conditions are read with no loop; of fewer, before each turn the mask
-- has the bits of the conditions from k on.
use mathlib.Core.Path.{◌≡◌}
use Prim.Native.Nat.{◌+◌, ◌-◌, ◌≤◌}
use Rattle.bitset.specs.Masks.{mask_from}
use Rattle.log_queries.specs.Reading.{came_by}
use Rattle.log_queries.proofs.row_ends.known.Given as goal

abbrev pub invariant-loop-k : goal.invariant-loop-k
invariant-loop-k l = (l.k ≤ l.conditions) × (l.mask ≡ mask_from (λ j. came_by l.rows l.u (l.base + j)) l.k (l.conditions - l.k))
