-- What is left of a list from a place on, a part by its length, a part in the middle of lists joined, a part after a
-- store before, behind or at its end, numbers in two runs, and how many a test keeps.
-- Assumes nothing.
use mathlib.Core.Path.{◌≡◌, sym, ap, ◌∙◌}
use mathlib.Core.Logic.{◌⊎◌, inl, inr}
use mathlib.Core.Bool.{true, false}
use mathlib.Core.List.{List, [], ◌∷◌, ◌++◌}
use Prim.Native.Nat.{ℕ, zero, suc, ◌+◌, ◌<◌, ◌≤◌}
use native.Mathlib.Numerals.{add-one}
use native.Mathlib.Omega.{arith}
use lib.Dec.{eqb, ltb}
use lib.ListN.{length, get_or, set, take, drop}
use lib.Seq.{slice, drop-cons, drop_at, take-add, take-append-add, take-append_seam, drop-append_seam, drop-append-le, length-take-le, take-set-le, take-set-lt, drop-set-lt, take-suc-set}
use borrow.Author.Tests.{eqb-true, eqb-false, ltb-true, ltb-false, lt-ltb, le-ltb}
use Rattle.lists.specs.Lists.{keep, upfrom}
use Rattle.lists.proofs.Tests.{two}

pub drop_one : (xs : List ℕ) (i : ℕ) → i < length xs → drop i xs ≡ get_or xs i 0 ∷ drop (i + 1) xs
drop_one xs i l = drop-cons xs i 0 l ∙ ap (λ (n : ℕ). get_or xs i 0 ∷ drop n xs) (sym (add-one i))

pub slice_taken : (xs : List ℕ) (a n : ℕ) → a ≤ length xs → take n (drop a xs) ≡ slice a (a + n) xs
slice_taken xs a n l = sym (ap (drop a) (take-add a n xs) ∙ drop_at (take a xs) (take n (drop a xs)) a (length-take-le a xs l))

pub middle : (a b c : List ℕ) → slice (length a) (length a + length b) (a ++ (b ++ c)) ≡ b
middle a b c = ap (drop (length a)) (take-append-add a (b ++ c) (length b)) ∙ drop-append_seam a (take (length b) (b ++ c)) ∙ take-append_seam b c

-- a part after a store: before the part, behind it, and at its end
module _ (l : List ℕ) (e x : ℕ) where
  pub slice_before : (a b : ℕ) → e < a → a ≤ b → slice a b (set l e x) ≡ slice a b l
  slice_before a b h k = ap (drop a) (take-set-lt b l e x (omega arith)) ∙ drop-set-lt a (take b l) e x h

  pub slice_behind : (a b : ℕ) → b ≤ e → slice a b (set l e x) ≡ slice a b l
  slice_behind a b h = ap (drop a) (take-set-le b l e x h)

  pub slice_end : (a : ℕ) → a ≤ e → e < length l → slice a (e + 1) (set l e x) ≡ slice a e l ++ (x ∷ [])
  slice_end a h k =
      ap (λ (n : ℕ). slice a n (set l e x)) (add-one e) ∙ ap (drop a) (take-suc-set l e x k)
      ∙ drop-append-le a (take e l) (x ∷ []) (omega (arith, length-take-le e l (omega arith)))

pub upfrom_append : (a n m : ℕ) → upfrom a (n + m) ≡ upfrom a n ++ upfrom (a + n) m
upfrom_append a zero m =
    let q : zero + m ≡ m = omega arith in
    let r : a + zero ≡ a = omega arith in
    rw (q, r)
upfrom_append a (suc n) m =
    let q : suc n + m ≡ suc (n + m) = omega arith in
    let r : a + suc n ≡ suc a + n = omega arith in
    rw (q, r) (λ j. a ∷ upfrom_append (suc a) n m j)

-- those whose key is below k, and those whose key is k
module _ (key : ℕ → ℕ) where
  pub keep_next : (list : List ℕ) (k : ℕ) → length (keep (λ x. ltb (key x) k) list) + length (keep (λ x. eqb (key x) k) list) ≡ length (keep (λ x. ltb (key x) (suc k)) list)
  keep_next [] k = omega arith
  keep_next (x ∷ xs) k = by (two (ltb (key x) k)) (two (eqb (key x) k)) (keep_next xs k)
    where
      by : (ltb (key x) k ≡ true) ⊎ (ltb (key x) k ≡ false) → (eqb (key x) k ≡ true) ⊎ (eqb (key x) k ≡ false) →
          length (keep (λ y. ltb (key y) k) xs) + length (keep (λ y. eqb (key y) k) xs) ≡ length (keep (λ y. ltb (key y) (suc k)) xs) →
          length (keep (λ y. ltb (key y) k) (x ∷ xs)) + length (keep (λ y. eqb (key y) k) (x ∷ xs)) ≡ length (keep (λ y. ltb (key y) (suc k)) (x ∷ xs))
      by (inl a) (inl b) r = absurd (let u = ltb-true (key x) k a in let v = eqb-true (key x) k b in omega arith)
      by (inl a) (inr b) r = let u = ltb-true (key x) k a in rw (a, b, lt-ltb (key x) (suc k) (omega arith)) (omega arith)
      by (inr a) (inl b) r = let v = eqb-true (key x) k b in rw (a, b, lt-ltb (key x) (suc k) (omega arith)) (omega arith)
      by (inr a) (inr b) r =
          let u = ltb-false (key x) k a in
          let v = eqb-false (key x) k b in
          rw (a, b, le-ltb (key x) (suc k) (omega (arith, v))) r
