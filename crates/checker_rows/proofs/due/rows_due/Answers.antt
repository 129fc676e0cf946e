-- `checker_rows::rows_due` meets its contract: before turn r the first r are filled.
use mathlib.Core.Path.{ap, ◌∙◌}
use native.Mathlib.Omega.{arith}
use Rattle.lists.specs.Lists.{fill}
use Rattle.lists.proofs.Fill.{fill_next}
use Rattle.plan_index.specs.Index.{laid}
use Rattle.log_rows.specs.Rows.{rows_of}
use Rattle.checker_rows.specs.Due.{row_due_in, due_by}
use borrow.Author.Rules.{rules}
use Rattle.checker_rows.proofs.due.rows_due.Goals as goal

pub loop-r-init : goal.loop-r-init
unfolding fill
loop-r-init c = search rules

pub row_due-requires : goal.row_due-requires
row_due-requires c =
    (omega (arith, c.loop-r-test.true, c.rows_of-end.ensures.0), c.requires.0, c.requires.1)

pub loop-r-preserved : goal.loop-r-preserved
loop-r-preserved c =
    let a = c.args in
    (search rules, fill_next 198 (row_due_in (laid a.index.now) (rows_of a.rows.now)) c.loop-r.r c.loop-r.invariant.1 c.row_due.ensures)

pub returns : goal.returns
unfolding due_by
returns c =
    let a = c.args in
    c.loop-r.invariant.1 ∙ ap (fill 198 (row_due_in (laid a.index.now) (rows_of a.rows.now))) (omega (arith, c.loop-r.invariant.0, c.loop-r-test.false, c.rows_of-end.ensures.0))
