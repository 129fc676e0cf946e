-- `checker_inputs::too_early` meets its contract: the rows from r on give the whole answer.
use mathlib.Core.Path.{◌≡◌}
use Rattle.plan_index.specs.Index.{laid}
use Rattle.log_rows.specs.Rows.{rows_of}
use Rattle.checker_rows.specs.MetArrays.{some}
use Rattle.checker_inputs.specs.Inputs.{row_early_in, some_early}
use Rattle.checker_inputs.proofs.early_starts.too_early.Given as goal

abbrev pub invariant-loop-r : goal.invariant-loop-r
invariant-loop-r l = some_early (laid l.index) (rows_of l.rows) ≡ some (row_early_in (laid l.index) (rows_of l.rows)) l.r l.end
