-- `checker_rows::row_due` meets its contract, by the kind of row.
use borrow.Author.Tests.{lt-ltb, le-ltb}
use Rattle.checker_rows.proofs.due.row_due.Goals as goal

pub returns-then-r-processes : goal.returns-then-r-processes
returns-then-r-processes c =
    simp (← c.processes_of-processes.ensures.0, lt-ltb _ _ c.if-r-processes.true) c.run_of.ensures

pub returns-then-r-conditionrow : goal.returns-then-r-conditionrow
returns-then-r-conditionrow c =
    simp (← c.processes_of-processes.ensures.0, le-ltb _ _ c.if-r-processes.false, ← c.conditionrow_of-conditionrow.ensures.0, lt-ltb _ _ c.if-r-conditionrow.true) c.edge_due.ensures

pub returns : goal.returns
returns c =
    simp (← c.processes_of-processes.ensures.0, le-ltb _ _ c.if-r-processes.false, ← c.conditionrow_of-conditionrow.ensures.0, le-ltb _ _ c.if-r-conditionrow.false, ← c.decider_of.ensures.0) c.run_of-2.ensures
