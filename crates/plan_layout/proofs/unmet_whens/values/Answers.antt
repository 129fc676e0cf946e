-- `plan_layout::values` meets its contract: before turn k the first k are filled, and the rest is the combination
-- without its lowest k bits.
use mathlib.Core.Path.{◌≡◌, sym, ap, ◌∙◌}
use Prim.Native.Nat.{ℕ, ◌%◌, ◌/◌, ◌^◌, ◌+◌}
use native.Mathlib.Numerals.{add-one}
use native.Mathlib.Nat.{div-div-eq-div-mul, pow-suc}
use native.Mathlib.Omega.{arith}
use Rattle.lists.specs.Lists.{fill}
use Rattle.lists.proofs.Fill.{fill_next}
use Rattle.plan_layout.specs.Unmet.{value_of}
use borrow.Author.Rules.{rules}
use Rattle.plan_layout.proofs.unmet_whens.values.Goals as goal

pub loop-k-init : goal.loop-k-init
unfolding fill
loop-k-init c = search rules

pub loop-k-preserved : goal.loop-k-preserved
loop-k-preserved c =
    let a = c.args in
    let l = c.loop-k in
    let e : l.rest / 2 ≡ a.combination / 2 ^ (l.k + 1) =
    ap (λ (x : ℕ). x / 2) l.invariant.1
    ∙ div-div-eq-div-mul a.combination (2 ^ l.k) 2
    ∙ ap (λ (x : ℕ). a.combination / x) (sym (pow-suc 2 l.k) ∙ ap (λ (x : ℕ). 2 ^ x) (sym (add-one l.k))) in
    (search rules, e, fill_next 6 (value_of a.combination) l.k l.invariant.2 (ap (λ (x : ℕ). x % 2) l.invariant.1))

pub returns : goal.returns
returns c =
    let a = c.args in
    let l = c.loop-k in
    l.invariant.2 ∙ ap (fill 6 (value_of a.combination)) (omega arith)
