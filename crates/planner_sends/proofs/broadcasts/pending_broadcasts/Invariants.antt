-- `planner_sends::pending_broadcasts` meets its contract: those taken, and those of the members left that are ready, are
-- those of all the conditions that the node decides.
use mathlib.Core.Path.{◌≡◌}
use Prim.Native.Nat.{◌+◌, ◌<◌}
use lib.ListN.{get_or}
use Rattle.bitset.specs.Masks.{passing}
use Rattle.plan_index.specs.Index.{laid}
use Rattle.log_rows.specs.Rows.{rows_of}
use Rattle.planner_sends.specs.Pending.{ready_to_broadcast}
use Rattle.planner_sends.proofs.broadcasts.pending_broadcasts.Given as goal

abbrev pub invariant-loop-left : goal.invariant-loop-left
invariant-loop-left l =
    (l.left < 64) × (l.mask + passing (ready_to_broadcast (laid l.index) (rows_of l.rows) l.u) l.left ≡ passing (ready_to_broadcast (laid l.index) (rows_of l.rows) l.u) (get_or (laid l.index).decides l.n 0))

abbrev pub decreases-loop-left : goal.decreases-loop-left
decreases-loop-left l =
    l.left
