-- A loop that takes the greatest of a function over the numbers below n that pass a test: with what is left it gives
-- the whole.
-- Assumes nothing.
use mathlib.Core.Path.{◌≡◌, refl, sym, ap, ◌∙◌}
use mathlib.Core.Bool.{Bool, true, false}
use mathlib.Core.List.{List, map}
use Prim.Native.Nat.{ℕ, ◌+◌, ◌-◌, ◌≤◌, ◌<◌, max}
use native.Mathlib.Omega.{arith}
use Rattle.lists.specs.Lists.{keep, upfrom, below, greatest}
use Rattle.lists.proofs.Keep.{keep_all}
use Rattle.lists.proofs.Loops.{upfrom_start, upfrom_next, upfrom_end}

module _ (f : ℕ → ℕ) (g : ℕ → Bool) where
  abbrev over : List ℕ → ℕ
  over xs = greatest (map f (keep g xs))

  abbrev pub Most : ℕ → ℕ → ℕ → Type 0
  Most n i most = over (below n) ≡ max most (over (upfrom i (n - i)))

  pub most_start : (n : ℕ) → Most n 0 0
  most_start n = ap over (upfrom_start n) ∙ omega arith

  pub most_taken : (n i most : ℕ) {next : ℕ} → i < n → g i ≡ true → Most n i most → next ≡ max most (f i) → Most n (i + 1) next
  most_taken n i most l e h s =
      let q : over (upfrom i (n - i)) ≡ max (f i) (over (upfrom (i + 1) (n - (i + 1)))) = ap over (upfrom_next n i l) ∙ rw e in
      omega arith

  pub most_left : (n i most : ℕ) {next : ℕ} → i < n → g i ≡ false → Most n i most → next ≡ most → Most n (i + 1) next
  most_left n i most l e h s =
      let q : over (upfrom i (n - i)) ≡ over (upfrom (i + 1) (n - (i + 1))) = ap over (upfrom_next n i l) ∙ rw e in
      omega arith

  pub most_end : (n i most : ℕ) → n ≤ i → Most n i most → over (below n) ≡ most
  most_end n i most l h =
      let q : over (upfrom i (n - i)) ≡ 0 = ap over (upfrom_end n i l) in
      omega arith

-- the greatest of all once nothing is left
pub most_whole : (f : ℕ → ℕ) (n i most : ℕ) → n ≤ i → Most f (λ k. true) n i most → greatest (map f (below n)) ≡ most
most_whole f n i most l h = ap (λ (xs : List ℕ). greatest (map f xs)) (sym (keep_all (λ k. true) (below n) (λ k m. refl))) ∙ most_end f (λ k. true) n i most l h
