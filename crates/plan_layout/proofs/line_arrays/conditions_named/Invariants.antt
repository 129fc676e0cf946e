-- `plan_layout::conditions_named` meets its contract: before turn k the first k are filled.
use mathlib.Core.Path.{◌≡◌}
use Prim.Native.Nat.{◌≤◌}
use lib.ListN.{length}
use Rattle.lists.specs.Lists.{fill}
use Rattle.plan.specs.Numbers.{condition_at}
use Rattle.plan_layout.proofs.line_arrays.conditions_named.Given as goal

abbrev pub invariant-loop-k : goal.invariant-loop-k
invariant-loop-k l = (l.k ≤ length l.edges) × (l.condition ≡ fill 128 (condition_at l.edges) l.k)
