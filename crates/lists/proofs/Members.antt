-- What `any`, `all`, `keep`, `map`, `each` and `first` say of the members of a list.
-- Assumes nothing.
use Rattle.std.specs.Prelude.{if◌then◌else◌}
use mathlib.Core.Path.{◌≡◌, refl, sym, ap, ◌∙◌, subst}
use mathlib.Core.Logic.{◌⊎◌, inl, inr}
use mathlib.Core.Bool.{Bool, ◌||◌, ◌&&◌, true, false, false≢true, and_assoc}
use mathlib.Core.List.Memᴰ.{append_cases as in_either}
use mathlib.Core.List.Memᴰ.{append_left as in_left}
use mathlib.Core.List.Memᴰ.{append_right as in_right}
use mathlib.Core.List.Memᴰ.{head as here}
use mathlib.Core.List.Memᴰ.{not-nil as in_none}
use mathlib.Core.List.Memᴰ.{tail as there}
use mathlib.Core.List.{List, [], ◌∷◌, Memᴰ as In, map, ◌++◌}
use Prim.Native.Nat.{◌≤◌, ℕ, zero, suc, ◌<◌, ◌+◌}
use native.Mathlib.Nat.{not-suc-le-zero}
use native.Mathlib.Omega.{arith}
use lib.Dec.{eqb}
use lib.ListN.{length, get_or}
use borrow.Author.Tests.{eqb-true, eq-eqb}
use Rattle.lists.specs.Lists.{any, all, keep, each, upfrom, below, first}
use Rattle.lists.proofs.Tests.{same_test, or_right, or_assoc, or_cross, clash, both, join, either, or_left, is_false, two, or_map}

module _ {A : Type 0} where
  pub any_in : (f : A → Bool) (xs : List A) → any f xs ≡ true → (x : A) × In x xs × (f x ≡ true)
  any_in f [] h = absurd (false≢true h)
  any_in f (x ∷ xs) h = at (either (f x) (any f xs) h) (any_in f xs)
    where
      at : (f x ≡ true) ⊎ (any f xs ≡ true) → (any f xs ≡ true → (y : A) × In y xs × (f y ≡ true)) → (y : A) × In y (x ∷ xs) × (f y ≡ true)
      at (inl e) r = (x, here refl, e)
      at (inr e) r = let q = r e in (q.0, there q.1, q.2)

  pub in_any : (f : A → Bool) {x : A} {xs : List A} → In x xs → f x ≡ true → any f xs ≡ true
  in_any f {x} {xs = y ∷ ys} (here q) e = or_left (f y) (any f ys) (sym (ap f q) ∙ e)
  in_any f {x} {xs = y ∷ ys} (there m) e = or_right (f y) (any f ys) (in_any f m e)
  in_any f {x = x} {xs = []} x6 e = elim x6 [ ]

  pub none_in : (f : A → Bool) {x : A} {xs : List A} → any f xs ≡ false → In x xs → f x ≡ false
  none_in f {x} {xs} h m = is_false (f x) (λ e. clash (in_any f m e) h)

  pub all_in : (f : A → Bool) {x : A} {xs : List A} → all f xs ≡ true → In x xs → f x ≡ true
  all_in f {x} {xs = y ∷ ys} h (here q) = ap f q ∙ (both (f y) (all f ys) h).0
  all_in f {x} {xs = y ∷ ys} h (there m) = all_in f (both (f y) (all f ys) h).1 m
  all_in f {x = x} {xs = []} h x6 = elim x6 [ ]

  pub in_all : (f : A → Bool) (xs : List A) → ((x : A) → In x xs → f x ≡ true) → all f xs ≡ true
  in_all f [] h = refl
  in_all f (x ∷ xs) h = join (f x) (all f xs) (h x (here refl)) (in_all f xs (λ y m. h y (there m)))

  pub in_keep : (f : A → Bool) {x : A} {xs : List A} → In x xs → f x ≡ true → In x (keep f xs)
  in_keep f {x} {xs = y ∷ ys} (here q) e = rw (sym (ap f q) ∙ e) (here q)
  in_keep f {x} {xs = y ∷ ys} (there m) e = at (f y) (in_keep f m e)
    where
      at : (b : Bool) → In x (keep f ys) → In x (if b then (y ∷ keep f ys) else keep f ys)
      at true n = there n
      at false n = n
  in_keep f {x = x} {xs = []} x6 e = elim x6 [ ]

  pub keep_in : (f : A → Bool) {x : A} (xs : List A) → In x (keep f xs) → In x xs × (f x ≡ true)
  keep_in f [] m = absurd (in_none m)
  keep_in f {x} (y ∷ ys) m = at (f y) refl (keep_in f ys) m
    where
      at : (b : Bool) → f y ≡ b → (In x (keep f ys) → In x ys × (f x ≡ true)) → In x (if b then (y ∷ keep f ys) else keep f ys) → In x (y ∷ ys) × (f x ≡ true)
      at true e r (here q) = (here q, ap f q ∙ e)
      at true e r (there n) = (there (r n).0, (r n).1)
      at false e r n = (there (r n).0, (r n).1)

  pub in_getD : (xs : List A) (i : ℕ) (d : A) → i < length xs → In (get_or xs i d) xs
  in_getD [] i d l = absurd (not-suc-le-zero l)
  in_getD (x ∷ xs) zero d l = here refl
  in_getD (x ∷ xs) (suc i) d l = there (in_getD xs i d (omega arith))

  pub none_at : (f : A → Bool) (xs : List A) (i : ℕ) (d : A) → any f xs ≡ false → i < length xs → f (get_or xs i d) ≡ false
  none_at f xs i d h l = none_in f h (in_getD xs i d l)

module _ {A B : Type 0} where
  pub in_map : (f : A → B) {x : A} {xs : List A} → In x xs → In (f x) (map f xs)
  in_map f (here q) = here (ap f q)
  in_map f (there m) = there (in_map f m)

  pub map_in : (f : A → B) {y : B} (xs : List A) → In y (map f xs) → (x : A) × In x xs × (y ≡ f x)
  map_in f [] m = absurd (in_none m)
  map_in f (x ∷ xs) (here q) = (x, here refl, q)
  map_in f (x ∷ xs) (there m) = let r = map_in f xs m in (r.0, there r.1, r.2)

  pub in_each : (f : A → List B) {x : A} {y : B} {xs : List A} → In x xs → In y (f x) → In y (each f xs)
  in_each f {x} {y} {xs = z ∷ zs} (here q) n = in_left (each f zs) (subst (λ (w : A). In y (f w)) q n)
  in_each f {x} {y} {xs = z ∷ zs} (there m) n = in_right (f z) (in_each f m n)
  in_each f {x = x} {y = y} {xs = []} x6 n = elim x6 [ ]

  pub each_in : (f : A → List B) {y : B} (xs : List A) → In y (each f xs) → (x : A) × In x xs × In y (f x)
  each_in f [] m = absurd (in_none m)
  each_in f {y} (x ∷ xs) m = at (in_either (f x) m) (each_in f xs)
    where
      at : In y (f x) ⊎ In y (each f xs) → (In y (each f xs) → (z : A) × In z xs × In y (f z)) → (z : A) × In z (x ∷ xs) × In y (f z)
      at (inl n) r = (x, here refl, n)
      at (inr n) r = let q = r n in (q.0, there q.1, q.2)

pub in_upfrom : (a n k : ℕ) → a ≤ k → k < a + n → In k (upfrom a n)
in_upfrom a zero k l u = absurd (omega arith)
in_upfrom a (suc n) k l u = at (two (eqb a k)) (λ l'. in_upfrom (suc a) n k l' (omega arith))
  where
    at : (eqb a k ≡ true) ⊎ (eqb a k ≡ false) → (suc a ≤ k → In k (upfrom (suc a) n)) → In k (a ∷ upfrom (suc a) n)
    at (inl e) r = here (sym (eqb-true a k e))
    at (inr e) r = there (r (let q : a ≡ k → ⊥ = λ z. clash (eq-eqb a k z) e in omega (arith, q)))

-- a list of one
pub only : {A : Type 0} (xs : List A) → length xs ≡ 1 → (x : A) × (xs ≡ x ∷ [])
only [] l = absurd (omega arith)
only (x ∷ []) l = (x, refl)
only (x ∷ y ∷ ys) l = absurd (omega arith)

pub in_length : {A : Type 0} {x : A} {xs : List A} → In x xs → 1 ≤ length xs
in_length (here q) = omega arith
in_length (there m) = omega arith

pub any_same : {A : Type 0} (f g : A → Bool) (xs : List A) → ((x : A) → In x xs → f x ≡ g x) → any f xs ≡ any g xs
any_same f g [] e = refl
any_same f g (x ∷ xs) e = λ i. e x (here refl) i || any_same f g xs (λ y m. e y (there m)) i

pub all_same : {A : Type 0} (f g : A → Bool) (xs : List A) → ((x : A) → In x xs → f x ≡ g x) → all f xs ≡ all g xs
all_same f g [] e = refl
all_same f g (x ∷ xs) e = λ i. e x (here refl) i && all_same f g xs (λ y m. e y (there m)) i

pub map_same : {A B : Type 0} (f g : A → B) (xs : List A) → ((x : A) → In x xs → f x ≡ g x) → map f xs ≡ map g xs
map_same f g [] e = refl
map_same f g (x ∷ xs) e = λ i. e x (here refl) i ∷ map_same f g xs (λ y m. e y (there m)) i

pub any_members : {A : Type 0} (f : A → Bool) (xs ys : List A) → ((x : A) → In x xs → In x ys) → ((x : A) → In x ys → In x xs) → any f xs ≡ any f ys
any_members f xs ys u v =
    same_test _ _ (λ e. let m = any_in f xs e in in_any f (u m.0 m.1) m.2) (λ e. let m = any_in f ys e in in_any f (v m.0 m.1) m.2)

-- a list of at most one
abbrev pub UptoOne : {A : Type 0} → List A → Type 0
UptoOne [] = Unit {0}
UptoOne (x ∷ []) = Unit {0}
UptoOne (x ∷ y ∷ ys) = ⊥

pub upto_one : {A : Type 0} (xs : List A) → length xs ≤ 1 → UptoOne xs
upto_one [] l = tt
upto_one (x ∷ []) l = tt
upto_one (x ∷ y ∷ ys) l = absurd (omega arith)

pub empty : {A : Type 0} (xs : List A) → length xs ≡ 0 → xs ≡ []
empty [] l = refl
empty (x ∷ xs) l = absurd (omega arith)

pub one_or_none : (b : Bool) → (if b then 1 else 0) ≤ 1
one_or_none true = omega arith
one_or_none false = omega arith

pub upfrom_in : (a n : ℕ) {k : ℕ} → In k (upfrom a n) → (a ≤ k) × (k < a + n)
upfrom_in a zero m = absurd (in_none m)
upfrom_in a (suc n) (here q) = (omega arith, omega arith)
upfrom_in a (suc n) (there m) = let r = upfrom_in (suc a) n m in (omega arith, omega arith)

pub in_below : (n k : ℕ) → k < n → In k (below n)
in_below n k l = in_upfrom 0 n k (omega arith) (omega arith)

pub below_in : (n : ℕ) {k : ℕ} → In k (below n) → k < n
below_in n m = let r = upfrom_in 0 n m in omega arith

pub no_members : {A : Type 0} (xs : List A) → ((x : A) → In x xs → ⊥) → xs ≡ []
no_members [] h = refl
no_members (x ∷ xs) h = absurd (h x (here refl))

pub any_false : {A : Type 0} (f : A → Bool) (xs : List A) → ((x : A) → In x xs → f x ≡ false) → any f xs ≡ false
any_false f [] h = refl
any_false f (x ∷ xs) h = rw (h x (here refl)) (any_false f xs (λ y m. h y (there m)))

pub any_append : {A : Type 0} (f : A → Bool) (xs ys : List A) → any f (xs ++ ys) ≡ (any f xs || any f ys)
any_append f [] ys = refl
any_append f (x ∷ xs) ys = rw (any_append f xs ys) (sym (or_assoc (f x) (any f xs) (any f ys)))

pub any_of_map : {A B : Type 0} (f : B → Bool) (g : A → B) (xs : List A) → any f (map g xs) ≡ any (λ x. f (g x)) xs
any_of_map f g [] = refl
any_of_map f g (x ∷ xs) = ap (λ (b : Bool). f (g x) || b) (any_of_map f g xs)

pub any_or : {A : Type 0} (f g : A → Bool) (xs : List A) → any (λ x. f x || g x) xs ≡ (any f xs || any g xs)
any_or f g [] = refl
any_or f g (x ∷ xs) = rw (any_or f g xs) (or_cross (f x) (g x) (any f xs) (any g xs))

pub any_right : {A : Type 0} (f : A → Bool) (xs ys : List A) → any f ys ≡ true → any f (xs ++ ys) ≡ true
any_right f [] ys h = h
any_right f (x ∷ xs) ys h = or_right (f x) (any f (xs ++ ys)) (any_right f xs ys h)

pub any_map : {A : Type 0} (f g : A → Bool) → ((x : A) → f x ≡ true → g x ≡ true) → (xs : List A) → any f xs ≡ true → any g xs ≡ true
any_map f g m [] h = h
any_map f g m (x ∷ xs) h = or_map (f x) (any f xs) (g x) (any g xs) (m x) (any_map f g m xs) h

-- a test that another one implies holds for some kept member where it does for some member
pub any_kept : {A : Type 0} (f g : A → Bool) (xs : List A) → ((x : A) → f x ≡ true → g x ≡ true) → any f (keep g xs) ≡ any f xs
any_kept f g [] h = refl
any_kept f g (x ∷ xs) h = at (two (g x)) (two (f x)) (any_kept f g xs h)
  where
    at : (g x ≡ true) ⊎ (g x ≡ false) → (f x ≡ true) ⊎ (f x ≡ false) → any f (keep g xs) ≡ any f xs → any f (keep g (x ∷ xs)) ≡ any f (x ∷ xs)
    at (inl p) q e = rw p (ap (λ (z : Bool). f x || z) e)
    at (inr p) (inl q) e = clash (h x q) p
    at (inr p) (inr q) e = rw (p, q) e

pub any_left : {A : Type 0} (f : A → Bool) (xs ys : List A) → any f xs ≡ true → any f (xs ++ ys) ≡ true
any_left f [] ys h = absurd (false≢true h)
any_left f (x ∷ xs) ys h = or_map (f x) (any f xs) (f x) (any f (xs ++ ys)) (λ e. e) (any_left f xs ys) h

-- a list that stands there only if a test holds
pub if_in : {A : Type 0} {x : A} (b : Bool) (xs : List A) → In x (if b then xs else []) → (b ≡ true) × In x xs
if_in true xs m = (refl, m)
if_in false xs m = absurd (in_none m)

-- the first that passes a test is one of them, is there if any passes, and is one
module _ {A : Type 0} (f : A → Bool) where
  pub first_in : {x : A} (xs : List A) → In x (first f xs) → In x xs × (f x ≡ true)
  first_in [] m = absurd (in_none m)
  first_in {x} (y ∷ ys) m = at (f y) refl (first_in ys) m
    where
      at : (b : Bool) → f y ≡ b → (In x (first f ys) → In x ys × (f x ≡ true)) → In x (if b then (y ∷ []) else first f ys) → In x (y ∷ ys) × (f x ≡ true)
      at true e r (here q) = (here q, ap f q ∙ e)
      at true e r (there n) = absurd (in_none n)
      at false e r n = (there (r n).0, (r n).1)

  pub first_some : {x : A} (xs : List A) → In x xs → f x ≡ true → (y : A) × In y (first f xs)
  first_some [] m e = absurd (in_none m)
  first_some {x} (y ∷ ys) m e = at (f y) refl m (λ n. first_some ys n e)
    where
      at : (b : Bool) → f y ≡ b → In x (y ∷ ys) → (In x ys → (z : A) × In z (first f ys)) → (z : A) × In z (if b then (y ∷ []) else first f ys)
      at true q n r = (y, here refl)
      at false q (here s) r = clash (sym (ap f s) ∙ e) q
      at false q (there n) r = r n

  pub first_one : (xs : List A) → UptoOne (first f xs)
  first_one [] = tt
  first_one (x ∷ xs) = at (f x) (first_one xs)
    where
      at : (b : Bool) → UptoOne (first f xs) → UptoOne (if b then (x ∷ []) else first f xs)
      at true r = tt
      at false r = r

-- two members of a list of at most one are the same
pub one_same : {A : Type 0} (xs : List A) → UptoOne xs → {x y : A} → In x xs → In y xs → x ≡ y
one_same [] u m n = absurd (in_none m)
one_same (z ∷ []) u (here p) (here q) = p ∙ sym q
one_same (z ∷ []) u (here p) (there n) = absurd (in_none n)
one_same (z ∷ []) u (there m) n = absurd (in_none m)
one_same (z ∷ w ∷ ws) u m n = absurd u

-- `all` over one list and then another
all_append : {A : Type 0} (f : A → Bool) (xs ys : List A) → all f (xs ++ ys) ≡ (all f xs && all f ys)
all_append f [] ys = refl
all_append f (x ∷ xs) ys = ap (λ (b : Bool). f x && b) (all_append f xs ys) ∙ sym (and_assoc (f x) (all f xs) (all f ys))

pub all_parts : {A : Type 0} (f : A → Bool) (xs ys : List A) → all f (xs ++ ys) ≡ true → (all f xs ≡ true) × (all f ys ≡ true)
all_parts f xs ys h = both (all f xs) (all f ys) (sym (all_append f xs ys) ∙ h)

pub all_joined : {A : Type 0} (f : A → Bool) (xs ys : List A) → all f xs ≡ true → all f ys ≡ true → all f (xs ++ ys) ≡ true
all_joined f xs ys a b = all_append f xs ys ∙ join (all f xs) (all f ys) a b

pub all_each : {A B : Type 0} (f : B → Bool) (g : A → List B) (xs : List A) → ((x : A) → In x xs → all f (g x) ≡ true) → all f (each g xs) ≡ true
all_each f g [] h = refl
all_each f g (x ∷ xs) h = all_joined f (g x) (each g xs) (h x (here refl)) (all_each f g xs (λ y m. h y (there m)))
