-- `planner_prefix::source_of` meets its contract: before turn k the best source of the conditions below k is known.
use mathlib.Core.Path.{refl, sym, ap, ◌∙◌}
use Prim.Native.Nat.{ℕ, ◌≤◌, ◌%◌, ◌^◌}
use native.Mathlib.Nat.{pow-le-pow_right, div-one}
use native.Mathlib.Numerals.{add-one}
use native.Mathlib.Omega.{arith}
use Rattle.planner_prefix.specs.Prefix.{later_by, source_among}
use Rattle.planner_prefix.proofs.Sources.{halved, doubled, power_within}
use Rattle.planner_prefix.proofs.prefix.source_of.Goals as goal

few : (k : ℕ) → k ≤ 6 → 2 ^ k ≤ 64
few k l = pow-le-pow_right {n = 2} (omega arith) {i = k} {j = 6} l

pub loop-k-init : goal.loop-k-init
unfolding source_among
loop-k-init c = (omega arith, refl, sym (div-one c.args.c), refl)

pub later-best-requires : goal.later-best-requires
later-best-requires c =
    let l = c.loop-k in (
      omega (arith, c.requires.3, few c.args.conditions c.requires.1),
      c.requires.0,
      omega (arith, c.loop-k-test.true, c.requires.1),
      λ v. power_within c.args.c l.k l.rest l.power l.invariant.1 l.invariant.2 v,
    )

pub overflow_mul-power : goal.overflow_mul-power
overflow_mul-power c = let l = c.loop-k in omega (arith, l.invariant.1, few l.k (omega arith))

pub loop-k-preserved : goal.loop-k-preserved
unfolding source_among
loop-k-preserved c =
    let l = c.loop-k in
    let a = c.args in (
      omega arith,
      doubled l.k l.power l.invariant.1,
      halved a.c l.k l.rest l.invariant.2,
      c.later-best.ensures ∙ (λ j. later_by a.comes.now a.conditionrow a.c l.k (l.invariant.1 j) (l.invariant.2 j % 2) (l.invariant.3 j))
          ∙ ap (source_among a.comes.now a.conditionrow a.c) (sym (add-one l.k)),
    )

pub returns : goal.returns
returns c =
    let l = c.loop-k in
    let a = c.args in
    l.invariant.3 ∙ ap (source_among a.comes.now a.conditionrow a.c) (omega arith)
