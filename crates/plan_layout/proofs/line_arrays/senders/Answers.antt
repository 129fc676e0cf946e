-- `plan_layout::senders` meets its contract: before turn k the first k are filled.
use mathlib.Core.Path.{refl, ap, ◌∙◌}
use native.Mathlib.Omega.{arith}
use Rattle.lists.specs.Lists.{fill}
use Rattle.lists.proofs.Fill.{fill_next}
use Rattle.plan.specs.Numbers.{from_at}
use borrow.Author.Rules.{rules}
use Rattle.plan_layout.proofs.line_arrays.senders.Goals as goal

pub loop-k-init : goal.loop-k-init
unfolding fill
loop-k-init c = search rules

pub loop-k-preserved : goal.loop-k-preserved
loop-k-preserved c =
    let a = c.args in
    let l = c.loop-k in
    (search rules, fill_next 128 (from_at a.edges.now) l.k l.invariant.1 refl)

pub returns : goal.returns
returns c =
    let a = c.args in
    let l = c.loop-k in
    l.invariant.1 ∙ ap (fill 128 (from_at a.edges.now)) (omega arith)
