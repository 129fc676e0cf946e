-- A run of stores: of one list after another, of a list at the front, what stands where afterwards, and a list stored
-- one by one.
-- Assumes nothing.
use mathlib.Core.Path.{◌≡◌, refl, sym, ap, ◌∙◌}
use mathlib.Core.List.{List, [], ◌∷◌, ◌++◌, append-nil}
use Prim.Native.Nat.{ℕ, zero, suc, ◌+◌, ◌≤◌, ◌<◌}
use native.Mathlib.Numerals.{add-one}
use native.Mathlib.Omega.{arith}
use lib.ListN.{length, get_or, set, take, drop, drop_of_length-le, length-set}
use lib.Seq.{sets, sets-eq, set-set, set_comm, drop-cons, drop-length, take-append_seam, get_or-set_same, get_or-set_other}
use Rattle.lists.specs.Front.{front}

module _ {A : Type 0} where
  pub sets_append : (u v l : List A) (i : ℕ) → sets l i (u ++ v) ≡ sets (sets l i u) (i + length u) v
  sets_append [] v l i = let e : i + 0 ≡ i = omega arith in rw e
  sets_append (x ∷ u) v l i = let e : i + suc (length u) ≡ suc i + length u = omega arith in sets_append u v (set l i x) (suc i) ∙ rw e

  pub sets_front : (u l : List A) → length u ≤ length l → sets l 0 u ≡ front u l
  unfolding front
  sets_front u l h = let e : 0 + length u ≡ length u = omega arith in sets-eq u l 0 (omega arith) ∙ rw e

  -- the front that was stored, and the whole where nothing else is left
  pub sets_taken : (u l : List A) → length u ≤ length l → take (length u) (sets l 0 u) ≡ u
  unfolding front
  sets_taken u l h = ap (take (length u)) (sets_front u l h) ∙ take-append_seam u (drop (length u) l)

  pub sets_whole : (u l : List A) → length u ≡ length l → sets l 0 u ≡ u
  unfolding front
  sets_whole u l h = sets_front u l (omega arith) ∙ ap (λ (n : ℕ). u ++ drop n l) h ∙ rw (drop-length l, append-nil u)

  -- a store before a run of stores and after it, and a run over a run from the same place that is no longer
  set_before : (u l : List A) (i j : ℕ) (b : A) → j < i → set (sets l i u) j b ≡ sets (set l j b) i u
  set_before [] l i j b h = refl
  set_before (a ∷ u) l i j b h = set_before u (set l i a) (suc i) j b (omega arith) ∙ ap (λ (m : List A). sets m (suc i) u) (set_comm l i j a b (λ e. omega arith))

  pub sets_over : (u v l : List A) (i : ℕ) → length u ≤ length v → sets (sets l i u) i v ≡ sets l i v
  sets_over [] v l i h = refl
  sets_over (a ∷ u) [] l i h = absurd (omega arith)
  sets_over (a ∷ u) (b ∷ v) l i h =
      ap (λ (m : List A). sets m (suc i) v) (set_before u (set l i a) (suc i) i b (omega arith) ∙ ap (λ (m : List A). sets m (suc i) u) (set-set l i a b))
      ∙ sets_over u v (set l i b) (suc i) (omega arith)

-- before the first place and behind the last everything is as it was, and between them stands what was stored
pub sets_before : (xs : List ℕ) (i j : ℕ) (vs : List ℕ) → j < i → get_or (sets xs i vs) j 0 ≡ get_or xs j 0
sets_before xs i j [] l = refl
sets_before xs i j (v ∷ vs) l = sets_before (set xs i v) (suc i) j vs (omega arith) ∙ get_or-set_other xs i j v 0 (λ q. absurd (omega arith))

pub sets_after : (xs : List ℕ) (i j : ℕ) (vs : List ℕ) → i + length vs ≤ j → get_or (sets xs i vs) j 0 ≡ get_or xs j 0
sets_after xs i j [] l = refl
sets_after xs i j (v ∷ vs) l = sets_after (set xs i v) (suc i) j vs (omega arith) ∙ get_or-set_other xs i j v 0 (λ q. absurd (omega arith))

pub sets_at : (xs : List ℕ) (i : ℕ) (vs : List ℕ) (n : ℕ) → n < length vs → i + length vs ≤ length xs → get_or (sets xs i vs) (i + n) 0 ≡ get_or vs n 0
sets_at xs i [] n l r = absurd (omega arith)
sets_at xs i (v ∷ vs) zero l r =
    let q : i + 0 ≡ i = omega arith in
    ap (λ (j : ℕ). get_or (sets (set xs i v) (suc i) vs) j 0) q ∙ sets_before (set xs i v) (suc i) i vs (omega arith) ∙ get_or-set_same xs i v 0 (omega arith)
sets_at xs i (v ∷ vs) (suc n) l r =
    let q : i + suc n ≡ suc i + n = omega arith in
    ap (λ (j : ℕ). get_or (sets (set xs i v) (suc i) vs) j 0) q ∙ sets_at (set xs i v) (suc i) vs n (omega arith) (omega (arith, length-set xs i v))

-- a list stored one by one: before turn r what is left to store gives the whole, and after the last turn nothing is
-- left
pub stores_next : {A : Type 0} (d : A) (xs : List A) (at r : ℕ) (all : List A) {whole : List A} → r < length xs → sets all (at + r) (drop r xs) ≡ whole →
    sets (set all (at + r) (get_or xs r d)) (at + (r + 1)) (drop (r + 1) xs) ≡ whole
stores_next d xs at r all l e =
    let q : at + (r + 1) ≡ suc (at + r) = omega arith in
    (λ i. sets (set all (at + r) (get_or xs r d)) (q i) (drop (add-one r i) xs)) ∙ ap (sets all (at + r)) (sym (drop-cons xs r d l)) ∙ e

pub stores_end : {A : Type 0} (xs : List A) (at r : ℕ) (all : List A) {whole : List A} → length xs ≤ r → sets all (at + r) (drop r xs) ≡ whole → all ≡ whole
stores_end xs at r all l e = ap (sets all (at + r)) (sym (drop_of_length-le xs {i = r} l)) ∙ e
