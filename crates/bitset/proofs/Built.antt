-- Masks built from their highest bit down: their bits, their members, the turns of the loop that builds one, masks of
-- tests that agree, and the mask of either of two tests.
-- Assumes nothing.
use Rattle.std.specs.Prelude.{if◌then◌else◌}
use mathlib.Core.Path.{◌≡◌, refl, sym, ap, ◌∙◌, subst}
use mathlib.Core.Bool.{Bool, true, false, ◌||◌}
use mathlib.Core.List.{◌∷◌}
use Prim.Native.Nat.{ℕ, zero, suc, ◌+◌, ◌-◌, ◌*◌, ◌/◌, ◌%◌, ◌^◌, ◌≤◌, ◌<◌, max}
use native.Mathlib.Nat.{pow-suc, pow-succ', div-div-eq-div-mul, div-one, zero-div, add-zero, zero-add, sub_self}
use native.Mathlib.Omega.{arith}
use lib.Bits.{bit_or, or_step}
use lib.Dec.{eqb}
use lib.Pow.{pow_pos}
use Rattle.lists.specs.Lists.{keep, upfrom, below}
use Rattle.lists.proofs.Keep.{shift}
use Rattle.model.specs.Listing.{bit}
use Rattle.bitset.specs.Masks.{members, under, mask_from}

-- the lowest bit of a mask, and the rest
pub under_low : (b : Bool) (m : ℕ) → under b m % 2 ≡ (if b then 1 else 0)
under_low true m = omega arith
under_low false m = omega arith

pub under_rest : (b : Bool) (m : ℕ) → under b m / 2 ≡ m
under_rest true m = omega arith
under_rest false m = omega arith

-- the bits of a mask with one bit more: the new one at 0, the others one place higher
bit_low : (b : Bool) (m : ℕ) → bit (under b m) 0 ≡ b
unfolding bit
bit_low b m = ap (λ (x : ℕ). eqb (x % 2) 1) (div-one (under b m)) ∙ ap (λ (x : ℕ). eqb x 1) (under_low b m) ∙ at b
  where
    at : (b : Bool) → eqb (if b then 1 else 0) 1 ≡ b
    at true = refl
    at false = refl

bit_rest : (b : Bool) (m k : ℕ) → bit (under b m) (suc k) ≡ bit m k
unfolding bit
bit_rest b m k =
    ap (λ (x : ℕ). eqb (under b m / x % 2) 1) (pow-succ' 2 k)
    ∙ ap (λ (x : ℕ). eqb (x % 2) 1) (sym (div-div-eq-div-mul (under b m) 2 (2 ^ k)))
    ∙ ap (λ (x : ℕ). eqb (x / 2 ^ k % 2) 1) (under_rest b m)

bit_none : (k : ℕ) → bit 0 k ≡ false
unfolding bit
bit_none k = ap (λ (x : ℕ). eqb (x % 2) 1) (zero-div (2 ^ k))

-- bit k of the mask of a test from a on is the test at a + k, and no bit is set beyond
pub built_bit : (f : ℕ → Bool) (a n k : ℕ) → k < n → bit (mask_from f a n) k ≡ f (a + k)
built_bit f a zero k l = absurd (omega arith)
built_bit f a (suc n) zero l = bit_low (f a) (mask_from f (suc a) n) ∙ ap f (sym (add-zero a))
built_bit f a (suc n) (suc k) l = bit_rest (f a) (mask_from f (suc a) n) k ∙ built_bit f (suc a) n k (omega arith) ∙ ap f (shift a k)

built_beyond : (f : ℕ → Bool) (a n k : ℕ) → n ≤ k → bit (mask_from f a n) k ≡ false
built_beyond f a zero k l = bit_none k
built_beyond f a (suc n) zero l = absurd (omega arith)
built_beyond f a (suc n) (suc k) l = bit_rest (f a) (mask_from f (suc a) n) k ∙ built_beyond f (suc a) n k (omega arith)

-- the mask of one number more: its bit is added above the others
pub built_above : (f : ℕ → Bool) (a n : ℕ) → mask_from f a (suc n) ≡ mask_from f a n + (if f (a + n) then 2 ^ n else 0)
built_above f a zero = subst (λ (c : Bool). under (f a) 0 ≡ 0 + (if c then 2 ^ 0 else 0)) (ap f (sym (add-zero a))) (at (f a))
  where
    at : (b : Bool) → under b 0 ≡ 0 + (if b then 2 ^ 0 else 0)
    at true = refl
    at false = refl
built_above f a (suc n) =
    ap (under (f a)) (built_above f (suc a) n ∙ ap (λ (k : ℕ). mask_from f (suc a) n + (if f k then 2 ^ n else 0)) (shift a n)) ∙ at (f (a + suc n))
  where
    at : (b : Bool) → under (f a) (mask_from f (suc a) n + (if b then 2 ^ n else 0)) ≡ under (f a) (mask_from f (suc a) n) + (if b then 2 ^ suc n else 0)
    at true = omega (arith, pow-succ' 2 n)
    at false = omega arith

-- a test that is f on the first n of the numbers and false on the others
keep_within : (f g : ℕ → Bool) (a n size : ℕ) → n ≤ size → ((k : ℕ) → a ≤ k → k < a + n → g k ≡ f k) → ((k : ℕ) → a + n ≤ k → g k ≡ false)
    → keep g (upfrom a size) ≡ keep f (upfrom a n)
keep_within f g a zero zero l same out = refl
keep_within f g a (suc n) zero l same out = absurd (omega arith)
keep_within f g a zero (suc size) l same out =
    let r = keep_within f g (suc a) zero size (omega arith) (λ k lo hi. absurd (omega arith)) (λ k l. out k (omega arith)) in
    λ i. if out a (omega arith) i then (a ∷ r i) else r i
keep_within f g a (suc n) (suc size) l same out =
    let r = keep_within f g (suc a) n size (omega arith) (λ k lo hi. same k (omega arith) (omega arith)) (λ k l. out k (omega arith)) in
    λ i. if same a (omega arith) (omega arith) i then (a ∷ r i) else r i

-- a mask built from a test has the numbers that pass it
pub built_members : (f : ℕ → Bool) (n : ℕ) → n ≤ 6 → members (mask_from f 0 n) ≡ keep f (below n)
unfolding members
built_members f n l =
    keep_within f (bit (mask_from f 0 n)) 0 n 6 l (λ k lo hi. built_bit f 0 n k (omega arith) ∙ ap f (zero-add k)) (λ k h. built_beyond f 0 n k (omega arith))

-- a mask of n bits fits into as many or more
pub built_small : (f : ℕ → Bool) (a n size : ℕ) → n ≤ size → mask_from f a n < 2 ^ size
built_small f a zero size l = pow_pos size
built_small f a (suc n) zero l = absurd (omega arith)
built_small f a (suc n) (suc size) l = at (f a) (built_small f (suc a) n size (omega arith))
  where
    at : (b : Bool) → mask_from f (suc a) n < 2 ^ size → under b (mask_from f (suc a) n) < 2 ^ suc size
    at true r = omega (arith, pow-suc 2 size)
    at false r = omega (arith, pow-suc 2 size)

-- a loop that goes from n down to 0 has at k the mask of the numbers from k on: it starts with 0
pub built_start : (f : ℕ → Bool) (n : ℕ) → mask_from f n (n - n) ≡ 0
built_start f n = rw (sub_self n)

-- one turn of that loop, from k to k - 1
pub built_step : (f : ℕ → Bool) (n k : ℕ) → 0 < k → k ≤ n → under (f (k - 1)) (mask_from f k (n - k)) ≡ mask_from f (k - 1) (n - (k - 1))
built_step f n zero p l = absurd (omega arith)
built_step f n (suc k) p l = let d : suc k - 1 ≡ k = omega arith in let e : n - k ≡ suc (n - suc k) = omega arith in rw (d, e)

-- tests that agree on the numbers give the same mask
pub built_same : (f g : ℕ → Bool) (a n : ℕ) → ((k : ℕ) → a ≤ k → k < a + n → f k ≡ g k) → mask_from f a n ≡ mask_from g a n
built_same f g a zero h = refl
built_same f g a (suc n) h =
    let r = built_same f g (suc a) n (λ k l m. h k (omega arith) (omega arith)) in
    λ i. under (h a (omega arith) (omega arith) i) (r i)

-- the bits of either of two masks are those of either test
under_either : (a b : Bool) (m n : ℕ) → bit_or (under a m) (under b n) ≡ under (a || b) (bit_or m n)
under_either a b m n =
    or_step (under a m) (under b n)
    ∙ (λ i. bit_or (under_rest a m i) (under_rest b n i) * 2 + max (under_low a m i) (under_low b n i))
    ∙ at a b
  where
    at : (a b : Bool) → bit_or m n * 2 + max (if a then 1 else 0) (if b then 1 else 0) ≡ under (a || b) (bit_or m n)
    at true true = omega arith
    at true false = omega arith
    at false true = omega arith
    at false false = omega arith

pub built_either : (f g : ℕ → Bool) (a n : ℕ) → bit_or (mask_from f a n) (mask_from g a n) ≡ mask_from (λ k. f k || g k) a n
built_either f g a zero = refl
built_either f g a (suc n) = under_either (f a) (g a) (mask_from f (suc a) n) (mask_from g (suc a) n) ∙ ap (under (f a || g a)) (built_either f g (suc a) n)
