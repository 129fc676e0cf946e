-- How many elements of a list a test keeps, how many stand in a part of it, and how often each number stands in it.
-- Assumes nothing.
use Rattle.std.specs.Prelude.{if◌then◌else◌}
use mathlib.Core.Path.{◌≡◌, refl, sym, ap, ◌∙◌}
use mathlib.Core.Bool.{Bool, true, false, not}
use mathlib.Core.List.Memᴰ.{head as here}
use mathlib.Core.List.Memᴰ.{not-nil as in_none}
use mathlib.Core.List.Memᴰ.{tail as there}
use mathlib.Core.List.{List, [], ◌∷◌, map, Memᴰ as In}
use Prim.Native.Nat.{ℕ, zero, suc, ◌+◌, ◌*◌, ◌≤◌, ◌<◌}
use native.Mathlib.Omega.{arith}
use lib.Dec.{eqb}
use lib.ListN.{length, take}
use borrow.Author.Tests.{eq-eqb, ne_eqb, not-true}
use Rattle.lists.specs.Lists.{any, keep, upfrom, sum}
use Rattle.lists.proofs.Tests.{clash, neither}
use Rattle.lists.proofs.Members.{keep_in, no_members}
use Rattle.lists.proofs.Sums.{sum_nought, sum_one_more}

pub take_most : {A : Type 0} (n : ℕ) (xs : List A) → length (take n xs) ≤ n
take_most zero xs = omega arith
take_most (suc n) [] = omega arith
take_most (suc n) (x ∷ xs) = let l = take_most n xs in omega arith

-- what a test keeps is no longer, and nothing where it holds of none
pub keep_short : {A : Type 0} (f : A → Bool) (xs : List A) → length (keep f xs) ≤ length xs
keep_short f [] = omega arith
keep_short f (x ∷ xs) = at (f x) (keep_short f xs)
  where
    at : (b : Bool) → length (keep f xs) ≤ length xs → length (if b then (x ∷ keep f xs) else keep f xs) ≤ suc (length xs)
    at true r = omega arith
    at false r = omega arith

pub keep_nothing : {A : Type 0} (f : A → Bool) (xs : List A) → any f xs ≡ false → keep f xs ≡ []
keep_nothing f [] e = refl
keep_nothing f (x ∷ xs) e = let n = neither (f x) (any f xs) e in rw n.0 (keep_nothing f xs n.1)

-- what a test keeps of a part is no more than what it keeps of the whole
pub keep_part : {A : Type 0} (f g : A → Bool) (xs : List A) → length (keep f (keep g xs)) ≤ length (keep f xs)
keep_part f g [] = omega arith
keep_part {A} f g (x ∷ xs) = at (g x) (f x) refl (keep_part f g xs)
  where
    at : (a b : Bool) → f x ≡ b → length (keep f (keep g xs)) ≤ length (keep f xs) →
        length (keep f (if a then (x ∷ keep g xs) else keep g xs)) ≤ length (if b then (x ∷ keep f xs) else keep f xs)
    at true true e l = rw e (omega arith)
    at true false e l = rw e l
    at false true e l = omega arith
    at false false e l = l

-- what a test keeps and what it leaves
pub keep_rest : {A : Type 0} (f : A → Bool) (xs : List A) → length xs ≡ length (keep f xs) + length (keep (λ x. not (f x)) xs)
keep_rest f [] = refl
keep_rest f (x ∷ xs) = at (f x) (keep_rest f xs)
  where
    at : (b : Bool) → length xs ≡ length (keep f xs) + length (keep (λ x. not (f x)) xs) →
        suc (length xs) ≡ length (if b then (x ∷ keep f xs) else keep f xs) + length (if not b then (x ∷ keep (λ x. not (f x)) xs) else keep (λ x. not (f x)) xs)
    at true e = omega arith
    at false e = omega arith

-- elements of which each passes one of some tests are at most as many as the tests, times how many pass one test
pub passing_few : {A B : Type 0} (t : B → A → Bool) (k : ℕ) (cs : List B) (es : List A) →
    ((e : A) → In e es → (c : B) × In c cs × (t c e ≡ true)) → ((c : B) → In c cs → length (keep (t c) es) ≤ k) → length es ≤ k * length cs
passing_few t k [] es some few =
    let e : es ≡ [] = no_members es (λ e m. in_none (some e m).1) in
    omega (arith, ap length e)
passing_few {A} {B} t k (c ∷ cs) es some few =
    let rest : List A = keep (λ e. not (t c e)) es in
    let r : length rest ≤ k * length cs =
    passing_few t k cs rest (λ e m. let q = keep_in (λ e. not (t c e)) es m in later e q.1 (some e q.0))
    (λ d m. (let l = few d (there m) in omega (arith, keep_part (t d) (λ e. not (t c e)) es))) in
    let s : k * suc (length cs) ≡ k + k * length cs = omega arith in
    omega (arith, keep_rest (t c) es, few c (here refl))
  where
    later : (e : A) → not (t c e) ≡ true → (d : B) × In d (c ∷ cs) × (t d e ≡ true) → (d : B) × In d cs × (t d e ≡ true)
    later e n (d, here q, s) = clash (ap (λ x. t x e) (sym q) ∙ s) (not-true _ n)
    later e n (d, there m, s) = (d, m, s)

-- how often each of the n numbers from a on stands in a list of such numbers, added up: the length of the list
pub sum_counts : (a n : ℕ) (xs : List ℕ) → ((x : ℕ) → In x xs → (a ≤ x) × (x < a + n)) → sum (map (λ k. length (keep (eqb k) xs)) (upfrom a n)) ≡ length xs
sum_counts a n [] h = sum_nought a n
sum_counts a n (x ∷ xs) h =
    let b = h x (here refl) in
    sum_one_more (λ k. length (keep (eqb k) (x ∷ xs))) (λ k. length (keep (eqb k) xs)) x a n b.0 b.1 (rw (eq-eqb x x refl)) (λ k d. rw (ne_eqb k x d))
    ∙ ap suc (sum_counts a n xs (λ y m. h y (there m)))
