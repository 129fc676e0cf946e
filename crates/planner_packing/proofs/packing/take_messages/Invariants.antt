-- `planner_packing::take_messages` meets its contract: in the outer loop the messages before place j are taken or left,
-- in the inner one those that do not fit are passed over.
use mathlib.Core.Path.{◌≡◌}
use Prim.Native.Nat.{◌-◌, ◌<◌}
use Rattle.plan_index.specs.Index.{laid}
use Rattle.log_rows.specs.Rows.{rows_of}
use Rattle.planner_nodes.specs.Nodes.{nodes_of}
use Rattle.planner_sends.proofs.Taking.{Passing, Taking}
use Rattle.planner_packing.specs.Sending.{OnlyPlaced, OnlyTaken, load_of}
use Rattle.planner_packing.proofs.packing.take_messages.Given as goal

abbrev pub invariant-loop-short : goal.invariant-loop-short
invariant-loop-short l =
    (l.j < l.z) × Passing (laid l.index).processes (laid l.index).bytes l.room l.end (laid l.index).remote (nodes_of l.nodes).wait l.z l.used (rows_of l.rows).comes (rows_of l.rows).place l.initial.j l.initial.short l.j l.short

abbrev pub decreases-loop-short : goal.decreases-loop-short
decreases-loop-short l = l.z - l.j

abbrev pub invariant-slot : goal.invariant-slot
invariant-slot l =
    (l.next ≡ l.j)
    × Taking (laid l.index).processes (laid l.index).bytes l.room l.end (laid l.index).remote (nodes_of l.initial.nodes).wait l.a l.z (load_of l.initial.used l.initial.short (rows_of l.initial.rows)) (nodes_of l.initial.nodes).lastarrival (nodes_of l.nodes).wait l.used l.short (rows_of l.rows).comes (rows_of l.rows).place (nodes_of l.nodes).lastarrival l.k l.j
    × OnlyPlaced (rows_of l.initial.rows) (rows_of l.rows) × OnlyTaken (nodes_of l.initial.nodes) (nodes_of l.nodes)

abbrev pub decreases-slot : goal.decreases-slot
decreases-slot l = l.z - l.j
