-- A loop over the numbers below n. What is left of them goes by one, and is nothing at the end. A loop that looks for
-- the first that passes a test: "what is left gives the whole answer" holds at the start, goes on past a number that
-- fails, and settles the answer where one passes or none is left.
-- Assumes nothing.
use mathlib.Core.Path.{◌≡◌, ap, ◌∙◌}
use mathlib.Core.Bool.{Bool, true, false}
use mathlib.Core.List.{[], ◌∷◌}
use Prim.Native.Nat.{ℕ, suc, ◌+◌, ◌-◌, ◌≤◌, ◌<◌}
use native.Mathlib.Numerals.{add-one}
use native.Mathlib.Omega.{arith}
use Rattle.lists.specs.Lists.{any, upfrom, below}

pub upfrom_start : (n : ℕ) → below n ≡ upfrom 0 (n - 0)
upfrom_start n = let q : n ≡ n - 0 = omega arith in ap (upfrom 0) q

pub upfrom_next : (n i : ℕ) → i < n → upfrom i (n - i) ≡ i ∷ upfrom (i + 1) (n - (i + 1))
upfrom_next n i l = let q : n - i ≡ suc (n - (i + 1)) = omega arith in ap (upfrom i) q ∙ rw add-one

pub upfrom_end : (n i : ℕ) → n ≤ i → upfrom i (n - i) ≡ []
upfrom_end n i l = let q : n - i ≡ 0 = omega arith in ap (upfrom i) q

module _ (f : ℕ → Bool) where
  abbrev pub Left : ℕ → ℕ → Type 0
  Left n i = any f (below n) ≡ any f (upfrom i (n - i))

  pub left_start : (n : ℕ) → Left n 0
  left_start n = ap (any f) (upfrom_start n)

  pub left_next : (n i : ℕ) → i < n → f i ≡ false → Left n i → Left n (i + 1)
  left_next n i l e h = h ∙ ap (any f) (upfrom_next n i l) ∙ rw e

  pub left_found : (n i : ℕ) → i < n → f i ≡ true → Left n i → any f (below n) ≡ true
  left_found n i l e h = h ∙ ap (any f) (upfrom_next n i l) ∙ rw e

  pub left_none : (n i : ℕ) → n ≤ i → Left n i → any f (below n) ≡ false
  left_none n i l h = h ∙ ap (any f) (upfrom_end n i l)
