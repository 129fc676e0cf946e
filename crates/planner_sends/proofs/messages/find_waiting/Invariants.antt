-- `planner_sends::find_waiting` meets its contract: before place j, the messages that wait so far stand in order.
use mathlib.Core.Path.{◌≡◌}
use Rattle.plan_index.specs.Index.{laid}
use Rattle.log_rows.specs.Rows.{rows_of}
use Rattle.planner_nodes.specs.Nodes.{nodes_of, with_wait}
use Rattle.planner_sends.specs.Pending.{waits_to_send}
use Rattle.planner_sends.proofs.Places.{Finding}
use Rattle.planner_sends.proofs.messages.find_waiting.Given as goal

abbrev pub invariant-loop-j : goal.invariant-loop-j
invariant-loop-j l =
    Finding (waits_to_send (laid l.index) (rows_of l.rows) l.u) (laid l.index).queue (nodes_of l.initial.nodes).wait l.a l.b (nodes_of l.nodes).wait l.k l.j
    × (nodes_of l.nodes ≡ with_wait (nodes_of l.nodes).wait (nodes_of l.initial.nodes))
