-- `checker_rules::uses_unknown` meets its contract: the rows from r on give the whole answer.
use mathlib.Core.Path.{◌≡◌}
use Rattle.plan_index.specs.Index.{laid}
use Rattle.log_rows.specs.Rows.{rows_of}
use Rattle.checker_rows.specs.MetArrays.{some}
use Rattle.checker_rules.specs.Rules.{row_unknown, some_unknown}
use Rattle.checker_rules.proofs.unknown_values.uses_unknown.Given as goal

abbrev pub invariant-loop-r : goal.invariant-loop-r
invariant-loop-r l = some_unknown (laid l.index) (rows_of l.rows) l.column ≡ some (row_unknown (laid l.index) (rows_of l.rows) l.column) l.r l.end
