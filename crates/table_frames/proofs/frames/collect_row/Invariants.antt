-- `table_frames::collect_row` meets its contract: the frame that is still to be put and what is left of the row give
-- the whole.
use mathlib.Core.List.{map}
use Prim.Native.Nat.{◌+◌, ◌-◌, ◌<◌, ◌^◌}
use lib.ListN.{take}
use lib.Seq.{slice}
use Rattle.table_frames.specs.Packed.{entry_frame, in_order}
use Rattle.table_frames.proofs.Collecting.{RowLeft}
use Rattle.table_frames.proofs.frames.collect_row.Given as goal

abbrev pub invariant-loop-i : goal.invariant-loop-i
invariant-loop-i l =
    RowLeft (entry_frame l.node l.bytes) l.list l.to (in_order (map (entry_frame l.node l.bytes) (slice l.from l.to l.list)) (take l.n l.initial.out)) (l.n + (l.to - l.from)) l.out l.m l.y l.i × (l.y < 2 ^ 57)
