-- `planner_combinations::plan_combinations` meets its contract: before turn c the combinations below c are planned, and
-- the turn plans c.
use mathlib.Core.Path.{◌≡◌, refl, ap, ◌∙◌}
use Prim.Native.Nat.{ℕ, ◌<◌, ◌^◌}
use native.Mathlib.Omega.{arith}
use lib.ListN.{length-replicate}
use Rattle.plan_index.specs.declared.PlanIndex.{PlanIndex}
use Rattle.plan_index.specs.Index.{laid}
use Rattle.planner_combinations.proofs.FromPrefix.{laid_bounded}
use Rattle.planner_combinations.proofs.AllPlanned.{sofar_before, sofar_start, sofar_next, sofar_end}
use Rattle.planner_combinations.proofs.plan_combinations.Goals as goal
use Rattle.planner_combinations.proofs.plan_combinations.Goals.{At-loop-c, In-loop-c}

abbrev planindex : At-loop-c → PlanIndex
planindex l = laid l.args.index.now

count : (l : At-loop-c) → l.how_many-n.result ≡ 2 ^ (planindex l).conditions
count l =
    l.how_many-n.ensures.0 ∙ ap (λ (k : ℕ). 2 ^ k) l.conditions_of.ensures.0

few : (i : In-loop-c) → i.loop-c.c < 64
few i = omega (arith, i.how_many-n.ensures.1, i.loop-c-test.true)

within : (i : In-loop-c) → i.loop-c.c < 2 ^ (planindex i.before).conditions
within i = omega (arith, count i.before, i.loop-c-test.true)

pub conditions_of-requires : goal.conditions_of-requires
conditions_of-requires c = laid_bounded c.requires.0

pub how_many-n-requires : goal.how_many-n-requires
how_many-n-requires c = c.conditions_of.ensures.1

pub loop-c-init : goal.loop-c-init
loop-c-init c =
    (omega arith, sofar_start (laid c.args.index.now) c.args.comes.now c.args.place.now c.args.since.now c.requires.1 c.requires.2 c.requires.3 (length-replicate {A = ℕ} 3584 1) refl)

pub plan_one-last-requires : goal.plan_one-last-requires
plan_one-last-requires c =
    (c.requires.0, within c.before.before.before.before.before.before, sofar_before c.loop-c.invariant.1)

pub loop-c-smaller : goal.loop-c-smaller
loop-c-smaller c = let t = c.loop-c-test.true in omega (arith, t)

pub loop-c-preserved : goal.loop-c-preserved
loop-c-preserved c = (
  (let t = c.loop-c-test.true in omega (arith, t)),
  sofar_next (planindex c.before.before.before.before.before.before.before.before.before.before) c.requires.0 c.loop-c.c c.loop-c.latest c.plan_one-last.result c.loop-c.comes c.loop-c.place c.loop-c.since c.loop-c.notes c.loop-c.passed _ _ _ _ _
      (few c.before.before.before.before.before.before.before.before.before) (within c.before.before.before.before.before.before.before.before.before) c.loop-c.invariant.1 c.plan_one-last.ensures c.max-latest.ensures,
)

pub returns : goal.returns
returns c =
    let h = c.how_many-n in
    let q : c.loop-c.c ≡ h.result = omega (arith, c.loop-c.invariant.0, c.loop-c-test.false) in
    sofar_end (planindex c.before) c.loop-c.c c.loop-c.latest c.loop-c.comes c.loop-c.place c.loop-c.since c.loop-c.notes c.loop-c.passed (q ∙ count c.before) (omega (arith, q, h.ensures.1)) c.loop-c.invariant.1
