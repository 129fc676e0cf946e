-- Steps for the nodes that pass a test are the steps for all nodes, where the step of a node that does not pass changes
-- nothing.
-- Assumes nothing.
use Rattle.std.specs.Prelude.{if◌then◌else◌}
use Prim.Native.Nat.{ℕ, zero, suc, ◌+◌, ◌≤◌, ◌<◌}
use mathlib.Core.Path.{◌≡◌, refl, sym, ap, ◌∙◌}
use mathlib.Core.Logic.{◌⊎◌, inl, inr}
use mathlib.Core.Bool.{Bool, true, false}
use mathlib.Core.List.{List, ◌∷◌}
use native.Mathlib.Omega.{arith}
use lib.Dec.{eqb}
use lib.ListN.{drop}
use borrow.Author.Tests.{eqb-true, eqb-false}
use Rattle.lists.specs.Lists.{keep, upfrom, below}
use Rattle.lists.proofs.Tests.{two}
use Rattle.bitset.specs.Masks.{nodes, steps}
use Rattle.bitset.proofs.Sets.{nodes_none}

-- `after n` is what the steps of the nodes below n lead to; a number that is no node's changes nothing
module _ {A : Type 0} (step : ℕ → A → A) (passes : ℕ → Bool) (slots : ℕ) (after : ℕ → A)
    (inside : (n : ℕ) → n < slots → step n (after n) ≡ after (suc n)) (outside : (n : ℕ) (s : A) → slots ≤ n → step n s ≡ s)
    (old : (n : ℕ) → n < slots → passes n ≡ false → after (suc n) ≡ after n) where
  none_left : (d k : ℕ) (s : A) → slots ≤ k → steps step (keep passes (upfrom k d)) s ≡ s
  unfolding steps
  none_left zero k s l = refl
  none_left (suc d) k s l = at (passes k) (none_left d (suc k) s (omega arith))
    where
      at : (c : Bool) → steps step (keep passes (upfrom (suc k) d)) s ≡ s → steps step (if c then k ∷ keep passes (upfrom (suc k) d) else keep passes (upfrom (suc k) d)) s ≡ s
      at true r = ap (steps step (keep passes (upfrom (suc k) d))) (outside k s l) ∙ r
      at false r = r

  go_on : (d k : ℕ) → k ≤ slots → slots ≤ k + d → steps step (keep passes (upfrom k d)) (after k) ≡ after slots
  unfolding steps
  go_on zero k l h = let e : k ≡ slots = omega arith in ap after e
  go_on (suc d) k l h = by (two (eqb k slots)) (λ o. go_on d (suc k) o (omega arith))
    where
      at : k < slots → (c : Bool) → passes k ≡ c → steps step (keep passes (upfrom (suc k) d)) (after (suc k)) ≡ after slots →
          steps step (if c then k ∷ keep passes (upfrom (suc k) d) else keep passes (upfrom (suc k) d)) (after k) ≡ after slots
      at o true e r = ap (steps step (keep passes (upfrom (suc k) d))) (inside k o) ∙ r
      at o false e r = ap (steps step (keep passes (upfrom (suc k) d))) (sym (old k o e)) ∙ r

      by : (eqb k slots ≡ true) ⊎ (eqb k slots ≡ false) → (k < slots → steps step (keep passes (upfrom (suc k) d)) (after (suc k)) ≡ after slots) →
          steps step (keep passes (upfrom k (suc d))) (after k) ≡ after slots
      by (inl e) r =
          let z : k ≡ slots = eqb-true k slots e in
          none_left (suc d) k (after k) (omega arith) ∙ ap after z
      by (inr e) r =
          let z : k ≡ slots → ⊥ = eqb-false k slots e in
          let o : k < slots = omega (arith, z) in
          at o (passes k) refl (r o)

  pub steps_kept : (most : ℕ) → slots ≤ most → steps step (keep passes (below most)) (after 0) ≡ after slots
  steps_kept most l = go_on most 0 (omega arith) (omega arith)

-- one step more of those for the nodes of a mask, and the end
module _ {A : Type 0} (step : ℕ → A → A) where
  pub steps_next : (m n : ℕ) (s : A) → nodes m ≡ n ∷ drop 1 (nodes m) → steps step (drop 1 (nodes m)) (step n s) ≡ steps step (nodes m) s
  unfolding steps
  steps_next m n s e = ap (λ (ns : List ℕ). steps step ns s) (sym e)

  pub steps_end : (m : ℕ) (s : A) → m ≡ 0 → s ≡ steps step (nodes m) s
  unfolding steps
  steps_end m s q = ap (λ (ns : List ℕ). steps step ns s) (sym (ap nodes q ∙ nodes_none))
