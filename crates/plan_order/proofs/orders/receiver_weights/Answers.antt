-- `plan_order::receiver_weights` meets its contract: before turn k the first k are filled.
use mathlib.Core.Path.{ap, ◌∙◌}
use native.Mathlib.Omega.{arith}
use Rattle.lists.specs.Lists.{fill}
use Rattle.lists.proofs.Fill.{fill_next}
use Rattle.plan.specs.Numbers.{to_at}
use Rattle.plan.specs.Tests.{at}
use borrow.Author.Rules.{rules}
use Rattle.plan_order.proofs.orders.receiver_weights.Goals as goal

pub loop-k-init : goal.loop-k-init
unfolding fill
loop-k-init c = search rules

pub loop-k-preserved : goal.loop-k-preserved
loop-k-preserved c =
    let a = c.args in
    let l = c.loop-k in
    (search rules, fill_next 128 (λ k. at a.weight.now (to_at a.edges.now k)) l.k l.invariant.1 c.number_at.ensures)

pub returns : goal.returns
returns c =
    let a = c.args in
    let l = c.loop-k in
    l.invariant.1 ∙ ap (fill 128 (λ k. at a.weight.now (to_at a.edges.now k))) (omega arith)
