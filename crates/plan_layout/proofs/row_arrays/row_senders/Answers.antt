-- `plan_layout::row_senders` meets its contract: before turn r the first r are filled.
use mathlib.Core.Path.{ap, ◌∙◌}
use native.Mathlib.Omega.{arith}
use Rattle.lists.specs.Lists.{fill}
use Rattle.lists.proofs.Fill.{fill_next}
use Rattle.plan.specs.Tests.{at}
use Rattle.plan_layout.specs.RowArrays.{process_of_row, senders_by_row}
use Rattle.plan_layout.proofs.RowBounds.{process_below}
use borrow.Author.Rules.{rules}
use Rattle.plan_layout.proofs.row_arrays.row_senders.Goals as goal

pub loop-r-init : goal.loop-r-init
unfolding fill
loop-r-init c = search rules

pub bounds-node-i : goal.bounds-node-i
bounds-node-i c =
    let a = c.args in
    let below =
    process_below a.from.now a.decider.now a.processes a.conditionrow c.loop-r.r c.requires.fact_1 c.requires.fact_4 c.requires.fact_5 in
    omega (arith, c.wide-i.ensures, c.row_process.ensures, below)

pub loop-r-preserved : goal.loop-r-preserved
loop-r-preserved c =
    let a = c.args in
    let l = c.loop-r in
    let told = ap (at a.node.now) (c.wide-i.ensures ∙ c.row_process.ensures) in
    (search rules, fill_next 198 (λ k. at a.node.now (process_of_row a.from.now a.decider.now a.processes a.conditionrow k)) l.r l.invariant.1 told)

pub returns : goal.returns
unfolding senders_by_row
returns c =
    let a = c.args in
    let l = c.loop-r in
    l.invariant.1 ∙ ap (fill 198 (λ k. at a.node.now (process_of_row a.from.now a.decider.now a.processes a.conditionrow k))) (omega arith)
