-- `planner_prefix::last_ends` meets its contract: before turn i the ends of the first i processes are looked at.
use mathlib.Core.Path.{◌≡◌}
use Prim.Native.Nat.{◌≤◌}
use Rattle.plan_index.specs.Index.{laid}
use Rattle.log_rows.specs.Rows.{rows_of}
use Rattle.planner_nodes.specs.Nodes.{nodes_of, with_busy}
use Rattle.planner_prefix.specs.Prefix.{ends_below}
use Rattle.planner_prefix.proofs.prefix.last_ends.Given as goal

abbrev pub invariant-loop-i : goal.invariant-loop-i
invariant-loop-i l = (l.i ≤ l.processes) × (nodes_of l.nodes ≡ with_busy (ends_below (laid l.index).node (rows_of l.rows).comes l.i) (nodes_of l.initial.nodes))
