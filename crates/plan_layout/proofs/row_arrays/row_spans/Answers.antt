-- `plan_layout::row_spans` meets its contract: before turn r the first r are filled.
use mathlib.Core.Path.{ap, ◌∙◌}
use native.Mathlib.Omega.{arith}
use Rattle.lists.specs.Lists.{fill}
use Rattle.lists.proofs.Fill.{fill_next}
use Rattle.plan.specs.Tests.{at}
use Rattle.plan_layout.specs.RowArrays.{span_of_row, spans_by_row}
use borrow.Author.Rules.{rules}
use Rattle.plan_layout.proofs.row_arrays.row_spans.Goals as goal

pub loop-r-init : goal.loop-r-init
unfolding fill
loop-r-init c = search rules

pub row_span-requires : goal.row_span-requires
row_span-requires c = record { fact_1 = c.requires.fact_1; fact_2 = c.requires.fact_3 c.loop-r.r }

pub loop-r-preserved : goal.loop-r-preserved
loop-r-preserved c =
    let a = c.args in
    let l = c.loop-r in
    (search rules, fill_next 198 (λ k. span_of_row a.ticks.now a.lasts.now a.processes k (at a.sender.now k)) l.r l.invariant.1 c.row_span.ensures)

pub returns : goal.returns
unfolding spans_by_row
returns c =
    let a = c.args in
    let l = c.loop-r in
    l.invariant.1 ∙ ap (fill 198 (λ k. span_of_row a.ticks.now a.lasts.now a.processes k (at a.sender.now k))) (omega arith)
