-- `plan_layout::row_process` meets its contract.
use borrow.Author.Tests.{lt-ltb, le-ltb}
use Rattle.plan_layout.proofs.row_arrays.row_process.Goals as goal

pub returns-then-row-processes : goal.returns-then-row-processes
returns-then-row-processes c = rw (lt-ltb _ _ c.if-row-processes.true)

pub returns-then-row-conditionrow : goal.returns-then-row-conditionrow
returns-then-row-conditionrow c = rw (le-ltb _ _ c.if-row-processes.false, lt-ltb _ _ c.if-row-conditionrow.true)

pub returns : goal.returns
returns c = rw (le-ltb _ _ c.if-row-processes.false, le-ltb _ _ c.if-row-conditionrow.false)
