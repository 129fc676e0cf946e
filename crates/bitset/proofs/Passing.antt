-- The members of a mask that pass a test, as a mask: the lowest looked at and the others left, and the same of a mask
-- that is built from another test.
-- Assumes nothing.
use Rattle.std.specs.Prelude.{if◌then◌else◌}
use mathlib.Core.Path.{◌≡◌, refl, sym, ap, ◌∙◌}
use mathlib.Core.Bool.{Bool, true, false, ◌&&◌}
use mathlib.Core.List.{List, ◌∷◌}
use Prim.Native.Nat.{ℕ, ◌+◌, ◌-◌, ◌^◌, ◌≤◌, ◌<◌}
use native.Mathlib.Omega.{arith}
use lib.ListN.{drop}
use Rattle.lists.specs.Lists.{keep, below}
use Rattle.lists.proofs.Keep.{keep_keep}
use Rattle.model.specs.Listing.{bit}
use Rattle.bitset.specs.Masks.{members, mask_of, passing, mask_from}
use Rattle.bitset.proofs.Sets.{mask_rebuilt}
use Rattle.bitset.proofs.Built.{built_members, built_small}

-- a mask m whose lowest member is k and whose others make the mask r
module _ (m r k : ℕ) (small : m < 64) (less : r < m) (first : members m ≡ k ∷ drop 1 (members m)) (others : members r ≡ drop 1 (members m)) where
  low : m ≡ 2 ^ k + r
  unfolding mask_of
  low = sym (mask_rebuilt m small) ∙ ap mask_of first ∙ ap (λ (ks : List ℕ). 2 ^ k + mask_of ks) (sym others) ∙ ap (λ (x : ℕ). 2 ^ k + x) (mask_rebuilt r (omega arith))

  -- one that passes is taken, one that does not is not, and what is left gives the rest
  pub passing_next : (f : ℕ → Bool) (mask : ℕ) (b : Bool) → f k ≡ b → (if b then mask + (m - r) else mask) + passing f r ≡ mask + passing f m
  unfolding passing mask_of
  passing_next f mask b e =
      at b ∙ ap (λ (x : ℕ). mask + x) (sym (ap (λ (ks : List ℕ). mask_of (keep f ks)) (first ∙ ap (λ (ks : List ℕ). k ∷ ks) (sym others)) ∙ ap (λ (c : Bool). mask_of (if c then k ∷ keep f (members r) else keep f (members r))) e))
    where
      at : (b : Bool) → (if b then mask + (m - r) else mask) + mask_of (keep f (members r)) ≡ mask + mask_of (if b then k ∷ keep f (members r) else keep f (members r))
      at true = omega (arith, low)
      at false = refl

-- an empty mask has none
pub passing_none : (f : ℕ → Bool) → passing f 0 ≡ 0
unfolding passing members mask_of bit
passing_none f = refl

-- of a mask that is built from a test, those pass that pass both tests
pub passing_built : (f g : ℕ → Bool) (n : ℕ) → n ≤ 6 → passing f (mask_from g 0 n) ≡ mask_from (λ k. g k && f k) 0 n
unfolding passing
passing_built f g n l =
    let both : ℕ → Bool = λ k. g k && f k in
    ap (λ (ks : List ℕ). mask_of (keep f ks)) (built_members g n l)
    ∙ ap mask_of (keep_keep f g (below n) ∙ sym (built_members both n l))
    ∙ mask_rebuilt (mask_from both 0 n) (built_small both 0 n 6 l)
