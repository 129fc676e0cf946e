-- Lists of different numbers: `repeated` is false.
-- Assumes nothing.
use Rattle.std.specs.Prelude.{if◌then◌else◌}
use mathlib.Core.Path.{◌≡◌, refl, sym, ap, ◌∙◌, subst}
use mathlib.Core.Logic.{◌⊎◌, inl, inr}
use mathlib.Core.Bool.{Bool, false, not, true}
use mathlib.Core.List.Memᴰ.{append_cases as in_either}
use mathlib.Core.List.Memᴰ.{head as here}
use mathlib.Core.List.Memᴰ.{tail as there}
use mathlib.Core.List.{List, [], ◌∷◌, Memᴰ as In, ◌++◌, map}
use Prim.Native.Nat.{ℕ, suc, ◌≤◌, zero, ◌<◌}
use native.Mathlib.Nat.{not-suc-le-zero}
use native.Mathlib.Omega.{arith}
use lib.Dec.{eqb}
use lib.ListN.{length}
use borrow.Author.Tests.{eqb-true, eq-eqb, not-true, ne_eqb}
use Rattle.lists.specs.Lists.{any, keep, repeated, upfrom, each}
use Rattle.lists.proofs.Tests.{neither, clash, two}
use Rattle.lists.proofs.Keep.{keep_all}
use Rattle.lists.proofs.Members.{none_in, keep_in, any_false, any_in, in_any, upfrom_in, map_in, in_map, each_in}

-- lists of different numbers
pub not_there : (x : ℕ) (xs : List ℕ) → (In x xs → ⊥) → any (eqb x) xs ≡ false
not_there x xs h = any_false (eqb x) xs (λ y m. ne_eqb x y (λ q. h (subst (λ (z : ℕ). In z xs) (sym q) m)))

pub keep_different : (f : ℕ → Bool) (xs : List ℕ) → repeated xs ≡ false → repeated (keep f xs) ≡ false
unfolding repeated
keep_different f [] h = refl
keep_different f (x ∷ xs) h =
    let q = neither (any (eqb x) xs) (repeated xs) h in
    at (f x) (any_false (eqb x) (keep f xs) (λ y m. none_in (eqb x) q.0 (keep_in f xs m).0)) (keep_different f xs q.1)
  where
    at : (b : Bool) → any (eqb x) (keep f xs) ≡ false → repeated (keep f xs) ≡ false → repeated (if b then (x ∷ keep f xs) else keep f xs) ≡ false
    at true a r = rw a r
    at false a r = r

pub one_less : (n : ℕ) (xs : List ℕ) → repeated xs ≡ false → length xs ≤ suc (length (keep (λ y. not (eqb y n)) xs))
unfolding repeated
one_less n [] h = omega arith
one_less n (x ∷ xs) h =
    let q = neither (any (eqb x) xs) (repeated xs) h in
    at (eqb x n) refl q.0 (one_less n xs q.1)
  where
    at : (b : Bool) → eqb x n ≡ b → any (eqb x) xs ≡ false → length xs ≤ suc (length (keep (λ y. not (eqb y n)) xs)) →
        suc (length xs) ≤ suc (length (if not b then (x ∷ keep (λ y. not (eqb y n)) xs) else keep (λ y. not (eqb y n)) xs))
    at true e a r =
        let k : keep (λ y. not (eqb y n)) xs ≡ xs = keep_all (λ y. not (eqb y n)) xs (λ y m. at_y y (eqb y n) refl (none_in (eqb x) a m)) in
        omega (arith, ap length k)
      where
        at_y : (y : ℕ) (b : Bool) → eqb y n ≡ b → eqb x y ≡ false → not b ≡ true
        at_y y true e' f = clash (eq-eqb x y (eqb-true x n e ∙ sym (eqb-true y n e'))) f
        at_y y false e' f = refl
    at false e a r = omega arith

pub different_few : (n : ℕ) (xs : List ℕ) → repeated xs ≡ false → ((x : ℕ) → In x xs → x < n) → length xs ≤ n
different_few zero [] d h = omega arith
different_few zero (x ∷ xs) d h = absurd (not-suc-le-zero (h x (here refl)))
different_few (suc n) xs d h =
    let rest : List ℕ = keep (λ y. not (eqb y n)) xs in
    let r : length rest ≤ n = different_few n rest (keep_different _ xs d) (λ x m. lower x (keep_in (λ y. not (eqb y n)) xs m)) in
    omega (arith, one_less n xs d)
  where
    lower : (x : ℕ) → In x xs × (not (eqb x n) ≡ true) → x < n
    lower x m =
        let l : x < suc n = h x m.0 in
        let q : x ≡ n → ⊥ = λ z. clash (eq-eqb x n z) (not-true (eqb x n) m.1) in
        omega (arith, q)

pub all_there : (n : ℕ) (xs : List ℕ) → repeated xs ≡ false → ((x : ℕ) → In x xs → x < n) → n ≤ length xs → (k : ℕ) → k < n → In k xs
unfolding repeated
all_there n xs d h l k u = at (two (any (eqb k) xs))
  where
    at : (any (eqb k) xs ≡ true) ⊎ (any (eqb k) xs ≡ false) → In k xs
    at (inl e) = let r = any_in (eqb k) xs e in subst (λ (z : ℕ). In z xs) (sym (eqb-true k r.0 r.2)) r.1
    at (inr e) =
        let few : suc (length xs) ≤ n = different_few n (k ∷ xs) (rw e d) more in
        absurd (omega arith)
      where
        more : (x : ℕ) → In x (k ∷ xs) → x < n
        more x (here q) = omega arith
        more x (there m) = h x m

pub different_cons : (x : ℕ) (xs : List ℕ) → (In x xs → ⊥) → repeated xs ≡ false → repeated (x ∷ xs) ≡ false
unfolding repeated
different_cons x xs h d = rw (not_there x xs h) d

pub different_parts : (x : ℕ) (xs : List ℕ) → repeated (x ∷ xs) ≡ false → (In x xs → ⊥) × (repeated xs ≡ false)
unfolding repeated
different_parts x xs d =
    let n = neither (any (eqb x) xs) (repeated xs) d in
    (λ m. clash (in_any (eqb x) m (eq-eqb x x refl)) n.0, n.1)

pub different_none : repeated [] ≡ false
unfolding repeated
different_none = refl

pub different_append : (xs ys : List ℕ) → repeated xs ≡ false → repeated ys ≡ false → ((k : ℕ) → In k xs → In k ys → ⊥) → repeated (xs ++ ys) ≡ false
different_append [] ys d e h = e
different_append (x ∷ xs) ys d e h =
    let n = different_parts x xs d in
    different_cons x (xs ++ ys) (λ m. at (in_either xs m)) (different_append xs ys n.1 e (λ k u v. h k (there u) v))
  where
    at : In x xs ⊎ In x ys → ⊥
    at (inl m) = (different_parts x xs d).0 m
    at (inr m) = h x (here refl) m

pub different_upfrom : (a n : ℕ) → repeated (upfrom a n) ≡ false
different_upfrom a zero = different_none
different_upfrom a (suc n) = different_cons a (upfrom (suc a) n) (λ m. let r = upfrom_in (suc a) n m in omega arith) (different_upfrom (suc a) n)

pub different_map : (f : ℕ → ℕ) → ((a b : ℕ) → f a ≡ f b → a ≡ b) → (xs : List ℕ) → repeated xs ≡ false → repeated (map f xs) ≡ false
different_map f inj [] d = different_none
different_map f inj (x ∷ xs) d =
    let n = different_parts x xs d in
    different_cons (f x) (map f xs) (λ m. let r = map_in f xs m in n.0 (subst (λ (z : ℕ). In z xs) (sym (inj x r.0 r.2)) r.1)) (different_map f inj xs n.1)

-- Numbers that `tag` tells apart by the element they come from.
pub different_each : {A : Type 0} (f : A → List ℕ) (key : A → ℕ) (tag : ℕ → ℕ) (xs : List A) →
    ((x : A) → In x xs → repeated (f x) ≡ false) → ((x : A) → In x xs → (r : ℕ) → In r (f x) → tag r ≡ key x) → repeated (map key xs) ≡ false → repeated (each f xs) ≡ false
different_each f key tag [] h e d = different_none
different_each f key tag (x ∷ xs) h e d =
    let n = different_parts (key x) (map key xs) d in
    different_append (f x) (each f xs) (h x (here refl)) (different_each f key tag xs (λ y m. h y (there m)) (λ y m. e y (there m)) n.1) (λ r u v.
    let m = each_in f xs v in
    n.0 (subst (λ (k : ℕ). In k (map key xs)) (sym (e m.0 (there m.1) r m.2) ∙ e x (here refl) r u) (in_map key m.1)))
