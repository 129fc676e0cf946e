-- `table_frames::frame` meets its contract: tick, node and last used byte make the number.
use native.Mathlib.Omega.{arith}
use Rattle.table_frames.specs.Packed.{entry_frame}
use Rattle.table_frames.proofs.frames.frame.Goals as goal

pub returns : goal.returns
unfolding entry_frame
returns c = omega arith
