-- `plan_layout::find_unmet` meets its contract: before turn e the first e are filled, and where there is no `when` the 0
-- stands already.
use mathlib.Core.Path.{◌≡◌, refl, sym, ap, ◌∙◌}
use mathlib.Core.List.{List}
use Prim.Native.Nat.{ℕ}
use native.Mathlib.Omega.{arith}
use Rattle.lists.specs.Lists.{fill}
use Rattle.lists.proofs.Fill.{fill_at, fill_next, fill_skips}
use Rattle.plan.specs.Tests.{at}
use Rattle.plan_index.specs.declared.PlanIndex.{PlanIndex}
use Rattle.plan_index.specs.Index.{laid}
use Rattle.log_rows.specs.Rows.{Rows, rows_of, with_unmet, put_unmet}
use Rattle.plan_layout.specs.Unmet.{unmet_of, value_of, unmet_by}
use Rattle.plan_layout.proofs.unmet_whens.find_unmet.Invariants.{unmet-at}
use Rattle.plan_layout.proofs.unmet_whens.find_unmet.Goals as goal
use Rattle.plan_layout.proofs.unmet_whens.find_unmet.Goals.{then-when-ne0, else-when-ne0}

pub loop-e-init : goal.loop-e-init
unfolding fill
loop-e-init c =
    (omega arith, λ i. with_unmet (c.requires.1 i) (rows_of c.args.rows.now))

pub kind_of-when-requires : goal.kind_of-when-requires
kind_of-when-requires c = omega (arith, c.loop-e-test.true, c.edges_of-edges.ensures.1)

pub loop-e-preserved : goal.loop-e-preserved
loop-e-preserved c =
    let a = c.args in
    let b : PlanIndex = laid a.index.now in
    let f : ℕ → ℕ = unmet-at b a.combination in
    let e : ℕ = c.loop-e.e in
    let s : Rows = rows_of a.rows.now in
    let n : ℕ = at b.condition e in
    let known : at c.values-value.result n ≡ value_of a.combination n =
    ap (λ (x : List ℕ). at x n) c.values-value.ensures ∙ fill_at 6 (value_of a.combination) 6 n (omega arith) (c.requires.0.condition_small e) in (
      omega (arith, c.loop-e-test.true),
      elim c.if-when-ne0.branch [
        | then-when-ne0 u ↦
            ap rows_of u.rows-is
            ∙ u.put_unmet.ensures
            ∙ (λ j. put_unmet e u.is_unmet.result (c.loop-e.invariant.1 j))
            ∙ (λ j.
            with_unmet
            (fill_next 128 f e refl (u.is_unmet.ensures ∙ (λ m. unmet_of (c.kind_of-when.ensures m) ((ap (at c.values-value.result) u.condition_of-k.ensures.0 ∙ known) m))) j)
            s)
        | else-when-ne0 u ↦
            ap rows_of u.rows-is
            ∙ c.loop-e.invariant.1
            ∙ (λ j. with_unmet (fill_skips 128 f e refl (ap (λ (x : ℕ). unmet_of x (value_of a.combination n)) (sym c.kind_of-when.ensures ∙ u.if-when-ne0.false)) j) s)
      ],
    )

pub returns : goal.returns
unfolding unmet_by
returns c =
    let a = c.args in
    c.loop-e.invariant.1 ∙ ap (λ (n : ℕ). with_unmet (fill 128 (unmet-at (laid a.index.now) a.combination) n) (rows_of a.rows.now))
    (omega (arith, c.loop-e.invariant.0, c.loop-e-test.false, c.edges_of-edges.ensures.0))
