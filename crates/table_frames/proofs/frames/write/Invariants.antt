-- `table_frames::write` meets its contract: what is left to write gives the whole.
use Rattle.table_frames.proofs.Writing.{Written}
use Rattle.table_frames.proofs.frames.write.Given as goal

abbrev pub invariant-loop-i : goal.invariant-loop-i
invariant-loop-i l = Written l.list l.initial.words l.n l.words l.i
