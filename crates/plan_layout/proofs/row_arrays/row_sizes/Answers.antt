-- `plan_layout::row_sizes` meets its contract: before turn r the first r are filled.
use mathlib.Core.Path.{ap, ◌∙◌}
use native.Mathlib.Omega.{arith}
use Rattle.lists.specs.Lists.{fill}
use Rattle.lists.proofs.Fill.{fill_next}
use Rattle.plan_layout.specs.RowArrays.{size_of_row, sizes_by_row}
use borrow.Author.Rules.{rules}
use Rattle.plan_layout.proofs.row_arrays.row_sizes.Goals as goal

pub loop-r-init : goal.loop-r-init
unfolding fill
loop-r-init c = search rules

pub loop-r-preserved : goal.loop-r-preserved
loop-r-preserved c =
    let a = c.args in
    let l = c.loop-r in
    (search rules, fill_next 198 (size_of_row a.bytes.now a.processes a.conditionrow) l.r l.invariant.1 c.row_size.ensures)

pub returns : goal.returns
unfolding sizes_by_row
returns c =
    let a = c.args in
    let l = c.loop-r in
    l.invariant.1 ∙ ap (fill 198 (size_of_row a.bytes.now a.processes a.conditionrow)) (omega arith)
