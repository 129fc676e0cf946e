-- `checker_rules::overlap` meets its contract: the processes from i on give the whole answer.
use mathlib.Core.Path.{◌≡◌}
use Rattle.plan_index.specs.Index.{laid}
use Rattle.log_rows.specs.Rows.{rows_of}
use Rattle.checker_rows.specs.MetArrays.{some}
use Rattle.checker_rules.specs.Rules.{row_overlaps, some_overlap}
use Rattle.checker_rules.proofs.overlaps.overlap.Given as goal

abbrev pub invariant-loop-i : goal.invariant-loop-i
invariant-loop-i l = some_overlap (laid l.index) (rows_of l.rows) ≡ some (row_overlaps (laid l.index) (rows_of l.rows)) l.i l.processes
