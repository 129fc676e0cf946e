-- A part of a list read, stored into, stored beside, of zeros, and how long it is.
-- Assumes nothing.
use mathlib.Core.Path.{◌≡◌, refl, ap, sym, ◌∙◌}
use mathlib.Core.List.{List, [], ◌∷◌}
use Prim.Native.Nat.{ℕ, zero, suc, ◌+◌, ◌-◌, ◌≤◌, ◌<◌}
use native.Mathlib.Omega.{arith}
use lib.ListN.{length, take, drop, set, get_or, replicate, length-drop}
use lib.Seq.{length-take-le, take-set-le, drop-set-lt, get_or-take, get_or-drop}
use Rattle.lists.specs.Cut.{cut}

-- a store behind a place, and before one
drop_store : (n : ℕ) (s : List ℕ) (i v : ℕ) → drop n (set s (n + i) v) ≡ set (drop n s) i v
drop_store zero s i v =
    let e : 0 + i ≡ i = omega arith in
    ap (λ (k : ℕ). set s k v) e
drop_store (suc n) [] i v = refl
drop_store (suc n) (x ∷ s) i v =
    let e : suc n + i ≡ suc (n + i) = omega arith in
    ap (λ (k : ℕ). drop (suc n) (set (x ∷ s) k v)) e ∙ drop_store n s i v

take_store : (n : ℕ) (s : List ℕ) (i v : ℕ) → i < n → take n (set s i v) ≡ set (take n s) i v
take_store zero s i v l = absurd (omega (arith, l))
take_store (suc n) [] i v l = refl
take_store (suc n) (x ∷ s) zero v l = refl
take_store (suc n) (x ∷ s) (suc i) v l = ap (λ (r : List ℕ). x ∷ r) (take_store n s i v (omega arith))

-- a number of the part, a store into it, before it and behind it
pub at_field : (s : List ℕ) (a n i : ℕ) → i < n → get_or s (a + i) 0 ≡ get_or (cut s a n) i 0
unfolding cut
at_field s a n i l = sym (rw (get_or-take, get_or-drop) refl)

pub within : (s : List ℕ) (a n i v : ℕ) → i < n → cut (set s (a + i) v) a n ≡ set (cut s a n) i v
unfolding cut
within s a n i v l = ap (take n) (drop_store a s i v) ∙ take_store n (drop a s) i v l

pub behind : (s : List ℕ) (a n i v : ℕ) → i < a → cut (set s i v) a n ≡ cut s a n
unfolding cut
behind s a n i v l = ap (take n) (drop-set-lt a s i v l)

pub before : (s : List ℕ) (a n i v : ℕ) → a + n ≤ i → cut (set s i v) a n ≡ cut s a n
unfolding cut
before s a n i v l =
    let e : i ≡ a + (i - a) = omega (arith, l) in
    let d : drop a (set s i v) ≡ set (drop a s) (i - a) v = ap (λ (k : ℕ). drop a (set s k v)) e ∙ drop_store a s (i - a) v in
    ap (take n) d ∙ take-set-le n (drop a s) (i - a) v (omega (arith, l))

-- zeros
drop_zeros : (a m : ℕ) → a ≤ m → ◌≡◌ {A = List ℕ} (drop a (replicate m 0)) (replicate (m - a) 0)
drop_zeros zero m l = let e : m ≡ m - 0 = omega arith in ap (λ (n : ℕ). replicate n 0) e
drop_zeros (suc a) zero l = absurd (omega (arith, l))
drop_zeros (suc a) (suc m) l = let e : m - a ≡ suc m - suc a = omega arith in drop_zeros a m (omega (arith, l)) ∙ ap (λ (n : ℕ). replicate n 0) e

take_zeros : (n m : ℕ) → n ≤ m → ◌≡◌ {A = List ℕ} (take n (replicate m 0)) (replicate n 0)
take_zeros zero m l = refl
take_zeros (suc n) zero l = absurd (omega (arith, l))
take_zeros (suc n) (suc m) l = ap (λ (r : List ℕ). 0 ∷ r) (take_zeros n m (omega (arith, l)))

pub zeros_cut : (m a n : ℕ) → a + n ≤ m → cut (replicate m 0) a n ≡ replicate n 0
unfolding cut
zeros_cut m a n l = ap (take n) (drop_zeros a m (omega (arith, l))) ∙ take_zeros n (m - a) (omega (arith, l))

-- its length
pub cut_long : (s : List ℕ) (a n : ℕ) → a + n ≤ length s → length (cut s a n) ≡ n
unfolding cut
cut_long s a n l = length-take-le n (drop a s) (omega (arith, l, length-drop a s))
