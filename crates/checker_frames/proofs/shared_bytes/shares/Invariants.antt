-- `checker_frames::shares` meets its contract: the rows from j on give the whole answer.
use mathlib.Core.Path.{◌≡◌}
use Prim.Native.Nat.{◌-◌}
use Rattle.plan_index.specs.Index.{laid}
use Rattle.log_rows.specs.Rows.{rows_of}
use Rattle.checker_rows.specs.MetArrays.{some}
use Rattle.checker_frames.specs.SharedBytes.{rows_lie}
use Rattle.checker_frames.proofs.shared_bytes.shares.Given as goal

abbrev pub invariant-loop-j : goal.invariant-loop-j
invariant-loop-j l = some (rows_lie (laid l.index) (rows_of l.rows) l.i) (laid l.index).processes l.i ≡ some (rows_lie (laid l.index) (rows_of l.rows) l.i) l.j l.i

abbrev pub decreases-loop-j : goal.decreases-loop-j
decreases-loop-j l = l.i - l.j
