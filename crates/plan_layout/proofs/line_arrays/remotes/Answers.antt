-- `plan_layout::remotes` meets its contract: before turn k the first k are filled.
use mathlib.Core.Path.{ap, ◌∙◌}
use native.Mathlib.Omega.{arith}
use Rattle.lists.specs.Lists.{fill}
use Rattle.lists.proofs.Fill.{fill_next}
use Rattle.plan.specs.Numbers.{from_at, to_at}
use Rattle.plan.specs.Tests.{at}
use Rattle.plan_layout.specs.LineArrays.{receiver_of}
use borrow.Author.Rules.{rules}
use Rattle.plan_layout.proofs.line_arrays.remotes.Goals as goal

pub loop-k-init : goal.loop-k-init
unfolding fill
loop-k-init c = search rules

pub offset_bounds-node-i : goal.offset_bounds-node-i
offset_bounds-node-i c =
    omega (arith, c.requires.fact_2 c.loop-k.k, c.wide-i.ensures)

pub bounds-node-i : goal.bounds-node-i
bounds-node-i c =
    omega (arith, c.requires.fact_2 c.loop-k.k, c.wide-i.ensures)

pub offset_bounds-node-j : goal.offset_bounds-node-j
offset_bounds-node-j c =
    omega (arith, c.requires.fact_3 c.loop-k.k, c.wide-j.ensures)

pub bounds-node-j : goal.bounds-node-j
bounds-node-j c =
    omega (arith, c.requires.fact_3 c.loop-k.k, c.wide-j.ensures)

pub receiver-requires : goal.receiver-requires
receiver-requires c = c.requires.fact_4 c.wide-j.result

pub loop-k-preserved : goal.loop-k-preserved
loop-k-preserved c =
    let a = c.args in
    let l = c.loop-k in
    (search rules, fill_next 128 (λ i. receiver_of (at a.node.now (from_at a.edges.now i)) (at a.node.now (to_at a.edges.now i))) l.k l.invariant.1 (c.receiver.ensures ∙ (λ j. receiver_of (at a.node.now (c.wide-i.ensures j)) (at a.node.now (c.wide-j.ensures j)))))

pub returns : goal.returns
returns c =
    let a = c.args in
    let l = c.loop-k in
    l.invariant.1 ∙ ap (fill 128 (λ i. receiver_of (at a.node.now (from_at a.edges.now i)) (at a.node.now (to_at a.edges.now i)))) (omega arith)
