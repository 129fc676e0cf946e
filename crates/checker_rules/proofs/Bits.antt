-- The bits of a number that are all among those of another: what the two share is the number itself.
-- Assumes nothing.
use mathlib.Core.Path.{◌≡◌, sym, ap, ◌∙◌}
use mathlib.Core.Bool.{◌&&◌}
use Prim.Native.Nat.{ℕ, zero, suc, ◌/◌, ◌%◌, ◌^◌, ◌<◌}
use native.Mathlib.Nat.{pow-suc}
use native.Mathlib.Omega.{arith}
use lib.Bits.{bit_and, and_step, and_zero_l, and_le_l}
use lib.Dec.{eqb, leb}
use borrow.Author.Tests.{eq-eqb, eqb-true, leb-true, le-leb}
use Rattle.lists.proofs.Tests.{both, join, same_test}
use Rattle.model.specs.Table.{bits_within}

pub shared_within : (n a b : ℕ) → a < 2 ^ n → eqb (bit_and a b) a ≡ bits_within n a b
unfolding bits_within
shared_within zero a b l =
    let z : a ≡ 0 = omega arith in
    ap (λ (k : ℕ). eqb (bit_and k b) k) z ∙ eq-eqb _ _ (and_zero_l b)
shared_within (suc n) a b l = at (shared_within n (a / 2) (b / 2) (omega (arith, pow-suc 2 n)))
  where
    at : eqb (bit_and (a / 2) (b / 2)) (a / 2) ≡ bits_within n (a / 2) (b / 2) → eqb (bit_and a b) a ≡ (leb (a % 2) (b % 2) && bits_within n (a / 2) (b / 2))
    at h =
        same_test _ _
        (λ e.
        let q = eqb-true (bit_and a b) a e in
        let s = and_step a b in
        let u = and_le_l (a / 2) (b / 2) in
        let v : bit_and (a / 2) (b / 2) ≡ a / 2 = omega arith in
        join _ _ (le-leb (a % 2) (b % 2) (omega arith)) (sym h ∙ eq-eqb _ _ v))
        (λ e.
        let k = both (leb (a % 2) (b % 2)) _ e in
        let x = leb-true (a % 2) (b % 2) k.0 in
        let y = eqb-true (bit_and (a / 2) (b / 2)) (a / 2) (h ∙ k.1) in
        let s = and_step a b in
        eq-eqb (bit_and a b) a (omega arith))
