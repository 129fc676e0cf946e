-- `plan_order::greatest_after` meets its contract: with what is left, the greatest so far gives the whole.
use mathlib.Core.Path.{sym, ap, ◌∙◌}
use mathlib.Core.Bool.{Bool}
use Prim.Native.Nat.{ℕ, max}
use lib.Dec.{eqb}
use lib.ListN.{length}
use borrow.Author.Tests.{eq-eqb, ne_eqb}
use Rattle.lists.proofs.Greatest.{most_start, most_taken, most_left, most_end}
use Rattle.plan.specs.Numbers.{from_at, to_at}
use Rattle.plan.specs.Tests.{at}
use Rattle.plan_order.specs.Urgency.{after}
use borrow.Author.Rules.{rules}
use Rattle.plan_order.proofs.urgency.greatest_after.Goals as goal
use Rattle.plan_order.proofs.urgency.greatest_after.Goals.{then-e-i, else-e-i}

pub loop-e-init : goal.loop-e-init
loop-e-init c =
    let a = c.args in
    (search rules, most_start (λ k. at a.urgency.now (to_at a.edges.now k)) (λ k. eqb (from_at a.edges.now k) a.i) (length a.edges.now))

pub loop-e-preserved : goal.loop-e-preserved
loop-e-preserved c =
    let a = c.args in
    let l = c.loop-e in
    let f : ℕ → ℕ = λ k. at a.urgency.now (to_at a.edges.now k) in
    let g : ℕ → Bool = λ k. eqb (from_at a.edges.now k) a.i in
    let n : ℕ = length a.edges.now in
    let t = c.loop-e-test.true in (
      search rules,
      elim c.if-e-i.branch [
        | then-e-i w ↦ most_taken f g n l.e-index l.most t (eq-eqb _ _ w.if-e-i.true) l.invariant.1 (w.most-is ∙ w.max-most.ensures ∙ ap (max l.most) w.number_at.ensures)
        | else-e-i w ↦ most_left f g n l.e-index l.most t (ne_eqb _ _ w.if-e-i.false) l.invariant.1 w.most-is
      ],
    )

pub returns : goal.returns
unfolding after
returns c =
    let a = c.args in
    let l = c.loop-e in
    sym (most_end (λ k. at a.urgency.now (to_at a.edges.now k)) (λ k. eqb (from_at a.edges.now k) a.i) (length a.edges.now) l.e-index l.most c.loop-e-test.false l.invariant.1)
