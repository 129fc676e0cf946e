-- `table_frames::write_both` meets its contract, by those of the two writers: where the frames do not fit it returns
-- before anything is written.
use mathlib.Core.Path.{refl, sym}
use mathlib.Core.Bool.{true≢false}
use native.Mathlib.Omega.{arith}
use Rattle.table_frames.proofs.both.write_both.Goals as goal

pub returns-then-frames-used : goal.returns-then-frames-used
returns-then-frames-used c = record { written = λ e. absurd (true≢false (sym e)); kept = λ e. (omega arith, refl, refl) }

pub returns : goal.returns
returns c = record { written = λ e. (omega arith, c.write.ensures, c.write-2.ensures); kept = λ e. absurd (true≢false e) }
