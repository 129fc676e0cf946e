-- `plan_layout::sizes` meets its contract: before turn k the first k are filled.
use mathlib.Core.Path.{◌≡◌}
use Prim.Native.Nat.{◌≤◌}
use lib.ListN.{length}
use Rattle.lists.specs.Lists.{fill}
use Rattle.plan.specs.Numbers.{bytes_at}
use Rattle.plan_layout.proofs.line_arrays.sizes.Given as goal

abbrev pub invariant-loop-k : goal.invariant-loop-k
invariant-loop-k l = (l.k ≤ length l.edges) × (l.bytes ≡ fill 128 (bytes_at l.edges) l.k)
