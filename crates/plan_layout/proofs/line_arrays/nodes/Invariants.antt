-- `plan_layout::nodes` meets its contract: before turn i the first i are filled.
use mathlib.Core.Path.{◌≡◌}
use Prim.Native.Nat.{◌≤◌}
use lib.ListN.{length}
use Rattle.lists.specs.Lists.{fill}
use Rattle.plan.specs.Numbers.{node_at}
use Rattle.plan_layout.proofs.line_arrays.nodes.Given as goal

abbrev pub invariant-loop-i : goal.invariant-loop-i
invariant-loop-i l = (l.i ≤ length l.processes) × (l.node ≡ fill 64 (node_at l.processes) l.i)
