-- `planner_combination::plan_combination` meets its contract: each turn of the loop is the next event, by what is kept
-- from event to event, and so what the last moment leads to the first one leads to.
use Prim.Native.Nat.{◌-◌}
use Rattle.plan_index.specs.Index.{laid}
use Rattle.log_rows.specs.Rows.{rows_of}
use Rattle.planner_nodes.specs.Nodes.{nodes_of}
use Rattle.planner_combination.specs.Events.{from_clock}
use Rattle.planner_combination.proofs.RunBegins.{Come}
use Rattle.planner_combination.proofs.combination.plan_combination.Given as goal

abbrev pub invariant-loop-at : goal.invariant-loop-at
invariant-loop-at l = Come (laid l.index) (rows_of l.initial.rows).unmet (from_clock l.start (nodes_of l.initial.nodes).busy (rows_of l.initial.rows).comes (rows_of l.initial.rows).place (nodes_of l.initial.nodes).passed (nodes_of l.initial.nodes).noted) l.at (rows_of l.rows) (nodes_of l.nodes)

abbrev pub decreases-loop-at : goal.decreases-loop-at
decreases-loop-at l = 2000000001 - l.at.u
