-- `planner_sends::update_next_sends` meets its contract: where something changes, the nodes that are left of those
-- for which something is new give the whole answer, and nothing changes elsewhere.
use mathlib.Core.Path.{◌≡◌}
use Prim.Native.Nat.{ℕ, ◌<◌}
use Rattle.bitset.specs.Masks.{nodes, steps}
use Rattle.plan_index.specs.declared.PlanIndex.{PlanIndex}
use Rattle.plan_index.specs.Index.{laid}
use Rattle.log_rows.specs.Rows.{Rows, rows_of}
use Rattle.planner_nodes.specs.Nodes.{Nodes, nodes_of}
use Rattle.planner_sends.specs.NextSends.{pending_at, waiting_at, update_below, update_in, OnlyUpdated}
use Rattle.planner_sends.proofs.Waits.{Updating}
use Rattle.planner_sends.proofs.next_sends.update_next_sends.Given as goal

-- the nodes of a mask are still to be looked up
pub record Left (b : PlanIndex) (s : Rows) (broadcastend u : ℕ) (ns m : Nodes) (left : ℕ) : Type 0 where
  pub mask : left < 256
  pub nextsend : steps (update_in broadcastend u (pending_at b s u) ns.busy b.round b.offset b.slots) (nodes left) m.nextsend
      ≡ update_below broadcastend u (pending_at b s u) ns.busy b.round b.offset b.slots ns.nextsend
  pub waits : Updating b.queuefirst b.slots broadcastend u ns.busy (waiting_at b s u) ns.wait ns.waitend (nodes left) m.wait m.waitend
  pub rest : OnlyUpdated ns m

abbrev pub invariant-loop-left : goal.invariant-loop-left
invariant-loop-left l =
    Left (laid l.index) (rows_of l.rows) l.broadcastend l.u (nodes_of l.initial.nodes) (nodes_of l.nodes) l.left

abbrev pub decreases-loop-left : goal.decreases-loop-left
decreases-loop-left l = l.left
