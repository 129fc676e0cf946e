-- `planner_sends::take_broadcasts` meets its contract: the members of the mask that is left, in the bytes left, give
-- the whole answer.
use mathlib.Core.Path.{◌≡◌}
use Prim.Native.Nat.{◌+◌, ◌-◌, ◌<◌}
use lib.Dec.{ltb}
use lib.ListN.{length}
use Rattle.bitset.specs.Masks.{members}
use Rattle.log_rows.specs.Rows.{rows_of, with_comes, with_place}
use Rattle.planner_sends.specs.Packing.{load, broadcast_all}
use Rattle.planner_sends.proofs.broadcasts.take_broadcasts.Given as goal

abbrev pub invariant-loop-used : goal.invariant-loop-used
invariant-loop-used l =
    (l.m < 64) × (l.used + length (members l.m) ≡ length (members l.mask))
    × (broadcast_all l.conditionrow l.end l.room (members l.mask) (load 0 (ltb l.room (length (members l.mask))) (rows_of l.initial.rows).comes (rows_of l.initial.rows).place)
    ≡ broadcast_all l.conditionrow l.end (l.room - l.used) (members l.m) (load l.used (ltb l.room (length (members l.mask))) (rows_of l.rows).comes (rows_of l.rows).place))
    × (rows_of l.rows ≡ with_place (rows_of l.rows).place (with_comes (rows_of l.rows).comes (rows_of l.initial.rows)))

abbrev pub decreases-loop-used : goal.decreases-loop-used
decreases-loop-used l =
    l.fits - l.used
