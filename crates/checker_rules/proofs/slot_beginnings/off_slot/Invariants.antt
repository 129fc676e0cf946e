-- `checker_rules::off_slot` meets its contract: the rows from r on give the whole answer.
use mathlib.Core.Path.{◌≡◌}
use Rattle.plan_index.specs.Index.{laid}
use Rattle.log_rows.specs.Rows.{rows_of}
use Rattle.checker_rows.specs.MetArrays.{some}
use Rattle.checker_rules.specs.Rules.{row_off, some_off}
use Rattle.checker_rules.proofs.slot_beginnings.off_slot.Given as goal

abbrev pub invariant-loop-r : goal.invariant-loop-r
invariant-loop-r l = some_off (laid l.index) (rows_of l.rows) ≡ some (row_off (laid l.index) (rows_of l.rows)) l.r l.end
