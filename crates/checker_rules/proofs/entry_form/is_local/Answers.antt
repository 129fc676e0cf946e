-- `checker_rules::is_local` meets its contract: a process is not an edge, nor is a condition.
use native.Mathlib.Omega.{arith}
use borrow.Author.Tests.{lt-ltb, le-ltb}
use Rattle.plan_index.specs.Index.{laid}
use Rattle.checker_rules.specs.EntryForm.{local_row}
use Rattle.checker_rules.proofs.entry_form.is_local.Goals as goal

pub returns-then-row-processes : goal.returns-then-row-processes
unfolding local_row
returns-then-row-processes c =
    let a = c.args in
    rw (lt-ltb a.row (laid a.index.now).processes (omega (arith, c.processes_of-processes.ensures.0, c.if-row-processes.true)))

pub returns-then-row-conditionrow_of : goal.returns-then-row-conditionrow_of
unfolding local_row
returns-then-row-conditionrow_of c =
    let a = c.args in
    simp (← c.processes_of-processes.ensures.0, le-ltb a.row c.processes_of-processes.result c.if-row-processes.false, ← c.conditionrow_of.ensures.0, lt-ltb a.row c.conditionrow_of.result c.if-row-conditionrow_of.true, ← c.remote_of.ensures.0)

pub returns : goal.returns
unfolding local_row
returns c =
    let b = laid c.args.index.now in
    let row = c.args.row in
    rw (le-ltb row b.processes (omega (arith, c.processes_of-processes.ensures.0, c.if-row-processes.false)), le-ltb row b.conditionrow (omega (arith, c.conditionrow_of.ensures.0, c.if-row-conditionrow_of.false)))
