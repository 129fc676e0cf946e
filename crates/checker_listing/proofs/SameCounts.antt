-- Two lists of numbers that std's comparison finds equal are the same numbers, and no others are.
-- Assumes nothing.
use Rattle.std.proofs.Common.{◌≡◌, ℕ, List, [], ◌∷◌, Bool, ◌&&◌, nat_eq, refl, ap}
use lib.Pointwise.{pointwise}
use Rattle.lists.specs.Lists.{same_numbers}

pub same_pointwise : (a b : List ℕ) → pointwise nat_eq a b ≡ same_numbers a b
unfolding same_numbers
same_pointwise [] [] = refl
same_pointwise [] (y ∷ ys) = refl
same_pointwise (x ∷ xs) [] = refl
same_pointwise (x ∷ xs) (y ∷ ys) = ap (λ (r : Bool). nat_eq x y && r) (same_pointwise xs ys)
