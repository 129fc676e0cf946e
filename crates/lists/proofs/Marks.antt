-- Numbers found twice by marks: an array that holds 1 at each number seen so far, and 0 elsewhere. And a list has a
-- number twice if the number at some place stands earlier.
-- Assumes nothing.
use Rattle.std.specs.Prelude.{if◌then◌else◌}
use mathlib.Core.Path.{◌≡◌, refl, sym, ap, ◌∙◌}
use mathlib.Core.Logic.{◌⊎◌, inl, inr}
use mathlib.Core.Bool.{Bool, true, false, ◌||◌}
use mathlib.Core.List.{List, [], ◌∷◌, ◌++◌, map}
use Prim.Native.Nat.{ℕ, zero, suc, ◌+◌, ◌<◌}
use native.Mathlib.Numerals.{add-one}
use native.Mathlib.Omega.{arith}
use lib.Dec.{eqb}
use lib.ListN.{length, get_or, set, replicate, length-set, length-replicate, get_or-replicate}
use lib.Seq.{get_or-set_same, get_or-set_other}
use borrow.Author.Tests.{eqb-true, eqb-false}
use Rattle.lists.specs.Lists.{any, below, repeated, earlier}
use Rattle.lists.proofs.Tests.{two, or_right, or_cross, or_false}
use Rattle.lists.proofs.Members.{any_append, any_of_map}
use Rattle.lists.proofs.Keep.{map_append, below_last}

any_last : {A : Type 0} (f : A → Bool) (xs : List A) (y : A) → any f (xs ++ (y ∷ [])) ≡ (any f xs || f y)
any_last f xs y = any_append f xs (y ∷ []) ∙ ap (λ (b : Bool). any f xs || b) (or_false (f y))

any_more : (f : ℕ → Bool) (n : ℕ) → any f (below (suc n)) ≡ (any f (below n) || f n)
any_more f n = ap (any f) (below_last n) ∙ any_last f (below n) n

repeated_last : (xs : List ℕ) (y : ℕ) → repeated (xs ++ (y ∷ [])) ≡ (repeated xs || any (λ x. eqb x y) xs)
unfolding repeated
repeated_last [] y = refl
repeated_last (x ∷ xs) y = rw (any_last (eqb x) xs y, repeated_last xs y) (or_cross (any (eqb x) xs) (eqb x y) (repeated xs) (any (λ x. eqb x y) xs))

pub repeated_earlier : (f : ℕ → ℕ) (n : ℕ) → repeated (map f (below n)) ≡ any (earlier f) (below n)
unfolding repeated earlier
repeated_earlier f zero = refl
repeated_earlier f (suc n) =
    ap (λ (is : List ℕ). repeated (map f is)) (below_last n)
    ∙ ap repeated (map_append f (below n) (n ∷ []))
    ∙ repeated_last (map f (below n)) (f n)
    ∙ (rw (repeated_earlier f n, any_of_map (λ x. eqb x (f n)) f (below n)))
    ∙ sym (any_more (earlier f) n)

is_mark : (x : ℕ) (b : Bool) → x ≡ (if b then 1 else 0) → x ≡ 1 → b ≡ true
is_mark x true e q = refl
is_mark x false e q = absurd (omega arith)

no_mark : (x : ℕ) (b : Bool) → x ≡ (if b then 1 else 0) → (x ≡ 1 → ⊥) → b ≡ false
no_mark x true e q = absurd (q e)
no_mark x false e q = refl

-- the marks of the numbers f 0, f 1, .., n of them
pub record Marked (f : ℕ → ℕ) (size : ℕ) (seen : List ℕ) (n : ℕ) : Type 0 where
  pub long : length seen ≡ size
  pub marks : (k : ℕ) → k < size → get_or seen k 0 ≡ if any (λ i. eqb (f i) k) (below n) then 1 else 0

module _ (f : ℕ → ℕ) (size : ℕ) where
  pub marked_start : {seen : List ℕ} → seen ≡ replicate size 0 → Marked f size seen 0
  marked_start e =
      record { long = ap length e ∙ length-replicate size 0; marks = λ k l. ap (λ (xs : List ℕ). get_or xs k 0) e ∙ get_or-replicate size k 0 0 l }

  module _ (seen : List ℕ) (n : ℕ) (h : Marked f size seen n) (l : f n < size) where
    pub marked_seen : get_or seen (f n) 0 ≡ 1 → earlier f n ≡ true
    unfolding earlier
    marked_seen e = is_mark (get_or seen (f n) 0) (any (λ i. eqb (f i) (f n)) (below n)) (h.marks (f n) l) e

    pub marked_new : (get_or seen (f n) 0 ≡ 1 → ⊥) → earlier f n ≡ false
    unfolding earlier
    marked_new e = no_mark (get_or seen (f n) 0) (any (λ i. eqb (f i) (f n)) (below n)) (h.marks (f n) l) e

    pub marked_next : Marked f size (set seen (f n) 1) (n + 1)
    marked_next =
        record {
          long = length-set seen (f n) 1 ∙ h.long;
          marks = λ k u. rw (add-one, any_more (λ i. eqb (f i) k) n) (at k u (two (eqb (f n) k)));
        }
      where
        at : (k : ℕ) → k < size → (eqb (f n) k ≡ true) ⊎ (eqb (f n) k ≡ false) →
            get_or (set seen (f n) 1) k 0 ≡ if (any (λ i. eqb (f i) k) (below n) || eqb (f n) k) then 1 else 0
        at k u (inl e) =
            rw (or_right (any (λ i. eqb (f i) k) (below n)) (eqb (f n) k) e, sym (eqb-true (f n) k e)) (get_or-set_same seen (f n) 1 0 (omega (arith, h.long)))
        at k u (inr e) =
            rw (e, or_false (any (λ i. eqb (f i) k) (below n))) (get_or-set_other seen (f n) k 1 0 (λ q. eqb-false (f n) k e (sym q)) ∙ h.marks k u)
