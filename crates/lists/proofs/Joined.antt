-- Lists joined one after another: joined from the left they are those joined from the right, and equal parts make equal
-- wholes.
-- Assumes nothing.
use mathlib.Core.Path.{◌≡◌, refl, sym, ◌∙◌}
use mathlib.Core.List.{List, [], ◌∷◌, ◌++◌, append_assoc, append-nil}
use Rattle.lists.specs.Lists.{each}

-- lists joined from the left, as `◌++◌` joins them
abbrev pub joined : {A : Type 0} → List A → List (List A) → List A
joined a [] = a
joined a (b ∷ bs) = joined (a ++ b) bs

pub regroup : {A : Type 0} (a : List A) (bs : List (List A)) → joined a bs ≡ a ++ each (λ b. b) bs
regroup a [] = sym (append-nil a)
regroup a (b ∷ bs) = regroup (a ++ b) bs ∙ append_assoc a b (each (λ b. b) bs)

pub each_equal : {A B : Type 0} {f g : A → List B} → ((x : A) → f x ≡ g x) → (xs : List A) → each f xs ≡ each g xs
each_equal h [] = refl
each_equal h (x ∷ xs) = rw (h x, each_equal h xs)
