-- `planner_dispatch::starts` meets its contract: the nodes that are left of those for which something is new give the
-- whole answer.
use mathlib.Core.Path.{◌≡◌}
use mathlib.Core.List.{List}
use Prim.Native.Nat.{ℕ, ◌<◌}
use lib.ListN.{length}
use Rattle.bitset.specs.Masks.{nodes as nodes-in, steps}
use Rattle.plan_index.specs.declared.PlanIndex.{PlanIndex}
use Rattle.plan_index.specs.Index.{laid}
use Rattle.log_rows.specs.Rows.{Rows, rows_of, with_comes}
use Rattle.planner_nodes.specs.Nodes.{Nodes, nodes_of, with_busy}
use Rattle.planner_dispatch.specs.ChangedNodes.{Soonest}
use Rattle.planner_dispatch.specs.Dispatching.{node_starts, started}
use Rattle.planner_dispatch.proofs.starts.Given as goal

-- The numbers of ns are still to start: what the rows and nodes are so far, where they were s and m.
pub record Going (b : PlanIndex) (u : ℕ) (s : Rows) (m : Nodes) (ns : List ℕ) (r : Rows) (k : Nodes) (first : ℕ) : Type 0 where
  pub rows : r ≡ with_comes r.comes s
  pub nodes : k ≡ with_busy k.busy m
  pub whole : steps (node_starts b s u) ns (record { busy = k.busy; comes = r.comes }) ≡ started b s m.busy u
  pub soonest : length m.busy ≡ 8 → Soonest b.slots u m.busy k.busy first

abbrev pub invariant-loop-left : goal.invariant-loop-left
invariant-loop-left l =
    (l.left < 256) × Going (laid l.index) l.u (rows_of l.initial.rows) (nodes_of l.initial.nodes) (nodes-in l.left) (rows_of l.rows) (nodes_of l.nodes) l.first

abbrev pub decreases-loop-left : goal.decreases-loop-left
decreases-loop-left l = l.left
