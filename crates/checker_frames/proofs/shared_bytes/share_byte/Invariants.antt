-- `checker_frames::share_byte` meets its contract: the rows from i on give the whole answer.
use mathlib.Core.Path.{◌≡◌}
use Rattle.plan_index.specs.Index.{laid}
use Rattle.log_rows.specs.Rows.{rows_of}
use Rattle.checker_rows.specs.MetArrays.{some}
use Rattle.checker_frames.specs.SharedBytes.{row_shares, some_share}
use Rattle.checker_frames.proofs.shared_bytes.share_byte.Given as goal

abbrev pub invariant-loop-i : goal.invariant-loop-i
invariant-loop-i l = some_share (laid l.index) (rows_of l.rows) ≡ some (row_shares (laid l.index) (rows_of l.rows)) l.i l.end
