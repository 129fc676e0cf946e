-- `planner_prefix::add_counts` meets its contract: before turn n the counts of the first n nodes are added.
use mathlib.Core.Path.{◌≡◌}
use Prim.Native.Nat.{◌≤◌}
use Rattle.planner_nodes.specs.Nodes.{nodes_of}
use Rattle.planner_prefix.specs.Stored.{added}
use Rattle.planner_prefix.proofs.stored_plans.add_counts.Given as goal

abbrev pub invariant-loop-n : goal.invariant-loop-n
invariant-loop-n l = (l.n ≤ l.slots) × (l.totals ≡ added (nodes_of l.nodes).passed l.initial.totals l.n)
