-- `plan::has_wrong_when` meets its contract: a condition that is found is the model's.
use mathlib.Core.Path.{◌≡◌, ap, ◌∙◌}
use mathlib.Core.Logic.{◌⊎◌, inl, inr}
use mathlib.Core.Bool.{not, ◌||◌}
use mathlib.Core.List.{List}
use Prim.Native.Nat.{ℕ, ◌≤◌, ◌<◌}
use native.Mathlib.Omega.{arith}
use lib.Dec.{eqb, leb}
use lib.ListN.{length, get_or}
use borrow.Author.Tests.{le-leb, lt-leb}
use Rattle.std.proofs.lemmas.List.{get_or_default}
use Rattle.model.specs.Plan.{decider}
use Rattle.model.specs.Refusals.{undecided, wrong_when}
use Rattle.plan.specs.declared.When.{When}
use Rattle.plan.specs.declared.When.TheVariants.{True, False}
use Rattle.plan.specs.declared.Plan.{Plan}
use Rattle.plan.specs.Memory.{when_of, lines}
use Rattle.plan.proofs.fields.has_wrong_when.Goals as goal

-- a `when` that names condition k
named : (p : Plan) (i k : ℕ) (w : When) → (w ≡ True k) ⊎ (w ≡ False k) →
    undecided (lines p) i (when_of w) ≡ (leb (length (lines p).conditions) k || not (eqb (decider (lines p) k) i))
unfolding undecided
named p i k w (inl e) = rw e
named p i k w (inr e) = rw e

pub returns-in-Some : goal.returns-in-Some
unfolding wrong_when
returns-in-Some c =
    let p = c.args.p.now in
    let k = c.in-True.k in
    let x = c.in-Some.field-0.now in
    let ds : List ℕ = c.condition_lines.result.now in
    let q : ds ≡ (lines p).conditions = c.condition_lines.ensures in
    let f = c.in-Some.ensures.lookup in
    let l : k < length ds = omega (arith, f.3.0, c.wide.ensures) in
    let e : x ≡ decider (lines p) k = f.1 ∙ ap (λ (j : ℕ). get_or ds j x) c.wide.ensures ∙ get_or_default ds k x 0 l ∙ ap (λ (xs : List ℕ). get_or xs k 0) q in
    rw (named p c.args.e.now.from k c.args.e.now.when c.in-True.is, lt-leb (length (lines p).conditions) k (omega (arith, l, ap length q)), e)

pub returns-in-None : goal.returns-in-None
unfolding wrong_when
returns-in-None c =
    let p = c.args.p.now in
    let k = c.in-True.k in
    let l : length (lines p).conditions ≤ k = omega (arith, c.in-None.ensures.lookup.3, c.wide.ensures, ap length c.condition_lines.ensures) in
    rw (named p c.args.e.now.from k c.args.e.now.when c.in-True.is, le-leb (length (lines p).conditions) k l)

pub returns-in-Always : goal.returns-in-Always
unfolding wrong_when undecided
returns-in-Always c = rw c.in-Always.is
