-- How many sets of known conditions a plan has: at most 64, and no more than its conditions have.
-- Assumes nothing.
use mathlib.Core.Path.{◌≡◌}
use mathlib.Core.Bool.{true, false}
use mathlib.Core.Logic.{◌⊎◌, inl, inr}
use Prim.Native.Nat.{ℕ, ◌^◌, ◌≤◌, ◌<◌}
use native.Mathlib.Nat.{pow-le-pow_right}
use native.Mathlib.Omega.{arith}
use borrow.Author.Tests.{lt-ltb, le-ltb, ltb-true, ltb-false}
use lib.Dec.{ltb}
use Rattle.limits.specs.Limits.{CONDITIONS, COMBINATIONS}
use Rattle.lists.proofs.Tests.{two}
use Rattle.listing_entries.specs.Sets.{sets_of}

module _ (conditions : ℕ) where
  pub sets_none : CONDITIONS < conditions → sets_of conditions ≡ 0
  unfolding sets_of
  sets_none h = rw (lt-ltb CONDITIONS conditions h)

  pub sets_some : conditions ≤ CONDITIONS → sets_of conditions ≡ 2 ^ conditions
  unfolding sets_of
  sets_some h = rw (le-ltb CONDITIONS conditions h)

  pub sets_most : (sets_of conditions ≤ COMBINATIONS) × (sets_of conditions ≤ 2 ^ conditions)
  sets_most = at (two (ltb CONDITIONS conditions))
    where
      at : (ltb CONDITIONS conditions ≡ true) ⊎ (ltb CONDITIONS conditions ≡ false) → (sets_of conditions ≤ COMBINATIONS) × (sets_of conditions ≤ 2 ^ conditions)
      at (inl e) = let n = sets_none (ltb-true CONDITIONS conditions e) in (omega (arith, n), omega (arith, n))
      at (inr e) =
          let l = ltb-false CONDITIONS conditions e in
          let n = sets_some l in
          (omega (arith, n, pow-le-pow_right {n = 2} (omega arith) {i = conditions} {j = CONDITIONS} l), omega (arith, n))
