-- The combinations stand in the order of their numbers: the one at place i has number i, and its values are the bits of
-- i.
-- Assumes nothing.
use mathlib.Core.Path.{◌≡◌, refl, sym, ap, ◌∙◌}
use mathlib.Core.Bool.{Bool, true, false}
use mathlib.Core.List.{List, [], ◌∷◌}
use Prim.Native.Nat.{ℕ, zero, suc, ◌*◌, ◌/◌, ◌%◌, ◌^◌, ◌<◌}
use native.Mathlib.Nat.{pow-suc, zero-add}
use native.Mathlib.Omega.{arith}
use lib.Dec.{eqb}
use lib.ListN.{length, get_or}
use borrow.Author.Tests.{eqb-true, eqb-false}
use Rattle.lists.specs.Lists.{each}
use Rattle.model.specs.Activity.{combinations_of}
use Rattle.model.specs.Listing.{bit}
use Rattle.bitset.specs.Masks.{under, mask_from, number_of}
use Rattle.bitset.proofs.Built.{built_bit}

-- a combination with one condition more, put first
abbrev more : List Bool → List (List Bool)
more c = (false ∷ c) ∷ (true ∷ c) ∷ []

more_count : (cs : List (List Bool)) → length (each more cs) ≡ 2 * length cs
more_count [] = refl
more_count (c ∷ cs) = let r = more_count cs in omega arith

-- n conditions have 2 ^ n combinations
pub combinations_count : (n : ℕ) → length (combinations_of n) ≡ 2 ^ n
combinations_count zero = refl
combinations_count (suc n) = let r = combinations_count n in omega (arith, more_count (combinations_of n), pow-suc 2 n)

-- the combination at place b + 2 * j has b first, then the combination at place j
more_at : (b : Bool) (cs : List (List Bool)) (j : ℕ) → j < length cs → get_or (each more cs) (under b j) [] ≡ b ∷ get_or cs j []
more_at b [] j l = absurd (omega arith)
more_at true (c ∷ cs) zero l = refl
more_at false (c ∷ cs) zero l = refl
more_at true (c ∷ cs) (suc j) l =
    let e : under true (suc j) ≡ suc (suc (under true j)) = omega arith in
    ap (λ (x : ℕ). get_or (each more (c ∷ cs)) x []) e ∙ more_at true cs j (omega arith)
more_at false (c ∷ cs) (suc j) l =
    let e : under false (suc j) ≡ suc (suc (under false j)) = omega arith in
    ap (λ (x : ℕ). get_or (each more (c ∷ cs)) x []) e ∙ more_at false cs j (omega arith)

-- a mask of the numbers from suc a on
pub mask_shift : (f : ℕ → Bool) (a n : ℕ) → mask_from f (suc a) n ≡ mask_from (λ k. f (suc k)) a n
mask_shift f a zero = refl
mask_shift f a (suc n) = ap (under (f (suc a))) (mask_shift f (suc a) n)

-- a number is its lowest bit under the others
halves : (i : ℕ) → (b : Bool) × (i ≡ under b (i / 2))
halves i = at (eqb (i % 2) 1) refl
  where
    at : (b : Bool) → eqb (i % 2) 1 ≡ b → (b : Bool) × (i ≡ under b (i / 2))
    at true e = let q = eqb-true (i % 2) 1 e in (true, omega arith)
    at false e = let q : i % 2 ≡ 1 → ⊥ = eqb-false (i % 2) 1 e in (false, omega (arith, q))

-- the combination at place i has the number i
pub combination_number : (n i : ℕ) → i < 2 ^ n → number_of n (get_or (combinations_of n) i []) ≡ i
combination_number zero i l = omega arith
combination_number (suc n) i l = let s : i / 2 < 2 ^ n = omega (arith, pow-suc 2 n) in from (halves i).0 (halves i).1 s (combination_number n (i / 2) s)
  where
    from : (b : Bool) → i ≡ under b (i / 2) → i / 2 < 2 ^ n → number_of n (get_or (combinations_of n) (i / 2) []) ≡ i / 2
        → number_of (suc n) (get_or (combinations_of (suc n)) i []) ≡ i
    from b e s r =
        ap (λ (x : ℕ). number_of (suc n) (get_or (combinations_of (suc n)) x [])) e
        ∙ ap (number_of (suc n)) (more_at b (combinations_of n) (i / 2) (omega (arith, combinations_count n)))
        ∙ ap (under b) (mask_shift (λ k. get_or (b ∷ get_or (combinations_of n) (i / 2) []) k false) 0 n ∙ r)
        ∙ sym e

-- condition k's value in the combination at place i is bit k of i
pub combination_bit : (n i k : ℕ) → i < 2 ^ n → k < n → get_or (get_or (combinations_of n) i []) k false ≡ bit i k
combination_bit n i k l h =
    let c : List Bool = get_or (combinations_of n) i [] in
    ap (λ (x : ℕ). get_or c x false) (sym (zero-add k))
    ∙ sym (built_bit (λ k. get_or c k false) 0 n k h)
    ∙ ap (λ (x : ℕ). bit x k) (combination_number n i l)
