-- `plan_layout::decided_by_node` meets its contract: before turn k each mask has the conditions below k.
use mathlib.Core.Path.{◌≡◌}
use Prim.Native.Nat.{◌≤◌}
use Rattle.lists.specs.Lists.{fill}
use Rattle.plan_layout.specs.NodeArrays.{decided_at}
use Rattle.plan_layout.proofs.node_arrays.decided_by_node.Given as goal

abbrev pub invariant-loop-k : goal.invariant-loop-k
invariant-loop-k l = (l.k ≤ l.conditions) × (l.decides ≡ fill 8 (decided_at l.decider l.node l.k) 8)
