-- The part of an array that a count names is the lines that the count names: a test over the one is that over the
-- other.
-- Assumes nothing.
use mathlib.Core.Path.{◌≡◌, refl, sym, ap, ◌∙◌}
use mathlib.Core.Bool.{Bool, ◌||◌}
use mathlib.Core.List.{List, [], ◌∷◌, map}
use Prim.Native.Nat.{ℕ, ◌≤◌, ◌<◌}
use native.Mathlib.Omega.{arith}
use lib.Dec.{eqb}
use lib.ListN.{length, get_or, take}
use Rattle.std.specs.List.{list_any}
use Rattle.std.proofs.lemmas.List.{get_or-take, length-take-le}
use Rattle.lists.specs.Lists.{any, below, earlier}
use Rattle.lists.proofs.Keep.{map_upfrom, map_map}
use Rattle.lists.proofs.Members.{any_of_map}
use Rattle.lists.proofs.Places.{list_below, any_places}
use Rattle.plan.specs.Memory.{counted}
use Rattle.plan.specs.Tests.{at}

pub any_listed : {A : Type 0} (f : A → Bool) (xs : List A) → list_any f xs ≡ any f xs
any_listed f [] = refl
any_listed f (x ∷ xs) = ap (λ (b : Bool). f x || b) (any_listed f xs)

-- a test over elements that show some lines
pub any_shown : {A B : Type 0} (f : A → B) (t : B → Bool) (xs : List A) {ys : List B} → map f xs ≡ ys → list_any (λ x. t (f x)) xs ≡ any t ys
any_shown f t xs e = any_listed (λ x. t (f x)) xs ∙ sym (any_of_map t f xs) ∙ ap (any t) e

module _ {A B : Type 0} (f : A → B) (d : A) (n : ℕ) (xs : List A) (l : n ≤ length xs) where
  pub taken : map f (take n xs) ≡ counted f d n xs
  unfolding counted
  taken =
      ap (map f) (sym (list_below d (take n xs) n (length-take-le n xs l)))
      ∙ map_map f (λ i. get_or (take n xs) i d) (below n)
      ∙ map_upfrom (λ i. f (get_or (take n xs) i d)) (λ i. f (get_or xs i d)) 0 n (λ k u v. ap f (get_or-take n xs k d (omega arith)))

-- a number stands earlier if it is among those before its place
pub earlier_taken : (xs : List ℕ) (i : ℕ) → i < length xs → list_any (λ y. eqb y (at xs i)) (take i xs) ≡ earlier (at xs) i
unfolding earlier
earlier_taken xs i l =
    any_listed (λ y. eqb y (at xs i)) (take i xs)
    ∙ sym (any_places 0 (take i xs) i (length-take-le i xs (omega arith)) (λ y. eqb y (at xs i)) (λ k. eqb (at xs k) (at xs i))
    (λ k u. ap (λ (y : ℕ). eqb y (at xs i)) (sym (get_or-take i xs k 0 u))))
