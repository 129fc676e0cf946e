-- `checker_rows::rows_due` meets its contract: before turn r the first r are filled.
use mathlib.Core.Path.{◌≡◌}
use Prim.Native.Nat.{◌≤◌}
use Rattle.lists.specs.Lists.{fill}
use Rattle.plan_index.specs.Index.{laid}
use Rattle.log_rows.specs.Rows.{rows_of}
use Rattle.checker_rows.specs.Due.{row_due_in}
use Rattle.checker_rows.proofs.due.rows_due.Given as goal

abbrev pub invariant-loop-r : goal.invariant-loop-r
invariant-loop-r l = (l.r ≤ l.end) × (l.due ≡ fill 198 (row_due_in (laid l.index) (rows_of l.rows)) l.r)
