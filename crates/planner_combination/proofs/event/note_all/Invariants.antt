-- `planner_combination::note_all` meets its contract: before condition k, the counts are noted for the conditions below
-- k.
use mathlib.Core.Path.{◌≡◌}
use Prim.Native.Nat.{◌≤◌}
use Rattle.plan_index.specs.Index.{laid}
use Rattle.log_rows.specs.Rows.{rows_of}
use Rattle.planner_nodes.specs.Nodes.{nodes_of, with_noted}
use Rattle.planner_combination.specs.Events.{notes_below}
use Rattle.planner_combination.proofs.event.note_all.Given as goal

abbrev pub invariant-loop-k : goal.invariant-loop-k
invariant-loop-k l = (l.k ≤ l.conditions) × (nodes_of l.nodes ≡ with_noted (notes_below (rows_of l.rows).comes l.u (laid l.index).conditionrow (nodes_of l.initial.nodes).passed l.k (nodes_of l.initial.nodes).noted) (nodes_of l.initial.nodes))
