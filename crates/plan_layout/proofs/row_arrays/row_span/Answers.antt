-- `plan_layout::row_span` meets its contract.
use borrow.Author.Tests.{lt-ltb, le-ltb}
use Rattle.plan_layout.proofs.row_arrays.row_span.Goals as goal

pub returns-then-row-processes : goal.returns-then-row-processes
returns-then-row-processes c = rw (lt-ltb _ _ c.if-row-processes.true)

pub returns : goal.returns
returns c = rw (le-ltb _ _ c.if-row-processes.false, c.wide-n.ensures)
