-- `planner_packing::move_down` meets its contract: before place i, what stands before it is moved down.
use mathlib.Core.Path.{◌≡◌}
use Rattle.planner_nodes.specs.Nodes.{nodes_of, with_wait}
use Rattle.planner_sends.proofs.Places.{Moving}
use Rattle.planner_packing.proofs.packing.move_down.Given as goal

abbrev pub invariant-loop-i : goal.invariant-loop-i
invariant-loop-i l =
    Moving (nodes_of l.initial.nodes).wait l.k l.j l.z (nodes_of l.nodes).wait l.to l.i × (nodes_of l.nodes ≡ with_wait (nodes_of l.nodes).wait (nodes_of l.initial.nodes))
