-- `planner_sends::next_end` meets its contract: before node n, the least is that of the nodes below n.
use mathlib.Core.Path.{◌≡◌}
use Prim.Native.Nat.{◌≤◌}
use Rattle.planner_nodes.specs.Nodes.{nodes_of}
use Rattle.planner_sends.specs.Clocks.{come_by}
use Rattle.planner_sends.proofs.clocks.next_end.Given as goal

abbrev pub invariant-loop-n : goal.invariant-loop-n
invariant-loop-n l = (l.n ≤ l.slots) × (l.least ≡ come_by 0 (nodes_of l.nodes).busy l.u l.n)
