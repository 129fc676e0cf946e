-- `planner_sends::next_event` meets its contract: before node n, the least is that of the next row over and the
-- slots of the nodes below n.
use mathlib.Core.Path.{◌≡◌}
use Prim.Native.Nat.{◌≤◌}
use Rattle.planner_nodes.specs.Nodes.{nodes_of}
use Rattle.planner_sends.specs.Clocks.{event_now}
use Rattle.planner_sends.proofs.clocks.next_event.Given as goal

abbrev pub invariant-loop-n : goal.invariant-loop-n
invariant-loop-n l = (l.n ≤ 8) × (l.least ≡ event_now (nodes_of l.nodes).nextsend l.come l.n)
