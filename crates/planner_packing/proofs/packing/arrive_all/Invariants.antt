-- `planner_packing::arrive_all` meets its contract: before node n, the nodes below n are reached.
use mathlib.Core.Path.{◌≡◌}
use Prim.Native.Nat.{◌≤◌}
use Rattle.planner_nodes.specs.Nodes.{nodes_of, with_lastarrival}
use Rattle.planner_sends.specs.Packing.{arrive_all}
use Rattle.planner_packing.proofs.packing.arrive_all.Given as goal

abbrev pub invariant-loop-n : goal.invariant-loop-n
invariant-loop-n l = (l.n ≤ l.slots) × (nodes_of l.nodes ≡ with_lastarrival (arrive_all l.end l.n (nodes_of l.initial.nodes).lastarrival) (nodes_of l.initial.nodes))
