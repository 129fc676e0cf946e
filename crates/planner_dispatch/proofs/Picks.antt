-- The first process of a part of an array that passes a test: over the part's first number, where the part has come to
-- its end, and what the first says of the numbers that stand in the part.
-- Assumes nothing.
use Rattle.std.specs.Prelude.{if◌then◌else◌}
use mathlib.Core.Path.{◌≡◌, refl, sym, ap, ◌∙◌, subst}
use mathlib.Core.Logic.{◌⊎◌, inl, inr}
use mathlib.Core.Bool.{Bool, true, false}
use mathlib.Core.List.Memᴰ.{head as here}
use mathlib.Core.List.Memᴰ.{not-nil as in_none}
use mathlib.Core.List.Memᴰ.{tail as there}
use mathlib.Core.List.{List, [], ◌∷◌, map, Memᴰ as In}
use Prim.Native.Nat.{ℕ, ◌+◌, ◌≤◌, ◌<◌}
use lib.ListN.{get_or}
use Rattle.lists.proofs.Tests.{two}
use Rattle.lists.proofs.Loops.{upfrom_end}
use Rattle.log_queries.specs.Reading.{part}
use Rattle.log_queries.proofs.ArrayParts.{part_next}
use Rattle.planner_dispatch.specs.Starts.{first_of}

module _ (xs : List ℕ) (j b : ℕ) (l : j < b) (f : ℕ → Bool) where
  pub first_pass : f (get_or xs j 0) ≡ true → first_of f (part xs j b) ≡ get_or xs j 0
  unfolding first_of
  first_pass e = ap (first_of f) (part_next xs j b l) ∙ rw e

  pub first_fail : f (get_or xs j 0) ≡ false → first_of f (part xs j b) ≡ first_of f (part xs (j + 1) b)
  unfolding first_of
  first_fail e = ap (first_of f) (part_next xs j b l) ∙ rw e

pub first_end : (xs : List ℕ) (j b : ℕ) (f : ℕ → Bool) → b ≤ j → first_of f (part xs j b) ≡ 64
unfolding first_of part
first_end xs j b f l = ap (λ (js : List ℕ). first_of f (map (λ j. get_or xs j 0) js)) (upfrom_end b j l)

-- no number passes, or the first that passes stands there
pub first_none : (f : ℕ → Bool) (xs : List ℕ) → ((x : ℕ) → In x xs → f x ≡ false) → first_of f xs ≡ 64
unfolding first_of
first_none f [] h = refl
first_none f (x ∷ xs) h = ap (λ (b : Bool). if b then x else first_of f xs) (h x (here refl)) ∙ first_none f xs (λ y m. h y (there m))

pub data First (f : ℕ → Bool) (xs : List ℕ) : Type 0 where
  no_first : ((x : ℕ) → In x xs → f x ≡ false) → First f xs
  a_first : In (first_of f xs) xs → f (first_of f xs) ≡ true → First f xs

pub the_first : (f : ℕ → Bool) (xs : List ℕ) → First f xs
unfolding first_of
the_first f [] = no_first (λ x m. absurd (in_none m))
the_first f (x ∷ xs) = by (two (f x)) (the_first f xs)
  where
    by : (f x ≡ true) ⊎ (f x ≡ false) → First f xs → First f (x ∷ xs)
    by (inl e) r = a_first (here (ap (λ (b : Bool). if b then x else first_of f xs) e)) (ap f (ap (λ (b : Bool). if b then x else first_of f xs) e) ∙ e)
    by (inr e) (no_first h) = no_first (λ y m. later y m)
      where
        later : (y : ℕ) → In y (x ∷ xs) → f y ≡ false
        later y (here q) = ap f q ∙ e
        later y (there m) = h y m
    by (inr e) (a_first m y) =
        let q : first_of f (x ∷ xs) ≡ first_of f xs = ap (λ (b : Bool). if b then x else first_of f xs) e in
        a_first (subst (λ (z : ℕ). In z (x ∷ xs)) (sym q) (there m)) (ap f q ∙ y)
