-- `plan_order::sender_keys` meets its contract: before turn k the first k are filled.
use mathlib.Core.Path.{ap, ◌∙◌}
use native.Mathlib.Omega.{arith}
use Rattle.lists.specs.Lists.{fill}
use Rattle.lists.proofs.Fill.{fill_next}
use Rattle.plan.specs.Numbers.{from_at, to_at}
use Rattle.plan.specs.Tests.{at}
use Rattle.plan_order.specs.Weights.{sender_key}
use borrow.Author.Rules.{rules}
use Rattle.plan_order.proofs.orders.sender_keys.Goals as goal

pub loop-k-init : goal.loop-k-init
unfolding fill
loop-k-init c = search rules

pub loop-k-preserved : goal.loop-k-preserved
loop-k-preserved c =
    let a = c.args in
    let l = c.loop-k in
    (search rules, fill_next 128 (λ k. sender_key (at a.node.now (from_at a.edges.now k)) (at a.node.now (to_at a.edges.now k))) l.k l.invariant.1 (c.sender_key.ensures ∙ (λ j. sender_key (c.number_at.ensures j) (c.number_at-in-loop-k.ensures j))))

pub returns : goal.returns
returns c =
    let a = c.args in
    let l = c.loop-k in
    l.invariant.1 ∙ ap (fill 128 (λ k. sender_key (at a.node.now (from_at a.edges.now k)) (at a.node.now (to_at a.edges.now k)))) (omega arith)
