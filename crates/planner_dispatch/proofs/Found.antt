-- The first process of a node in dispatch order that passes a test, as the code has it, a number or 64, is the first
-- process of all in dispatch order that is of the node and passes, as the model has it, a list of one or of none.
-- Assumes nothing.
use Rattle.std.specs.Prelude.{if◌then◌else◌}
use mathlib.Core.Path.{◌≡◌, refl, ap, ◌∙◌}
use mathlib.Core.Bool.{Bool, true, false, ◌&&◌}
use mathlib.Core.List.Memᴰ.{head as here}
use mathlib.Core.List.Memᴰ.{tail as there}
use mathlib.Core.List.{List, [], ◌∷◌, Memᴰ as In}
use Prim.Native.Nat.{ℕ}
use Rattle.lists.specs.Lists.{keep, first}
use Rattle.planner_dispatch.specs.Starts.{first_of}

-- `mine` says which are of the node, `passes` is the test, `both` says both
module _ (mine passes both : ℕ → Bool) where
  pub data Found (xs : List ℕ) : Type 0 where
    none : first both xs ≡ [] → first_of passes (keep mine xs) ≡ 64 → Found xs
    one : (i : ℕ) → In i xs → both i ≡ true → first both xs ≡ i ∷ [] → first_of passes (keep mine xs) ≡ i → Found xs

  module _ (x : ℕ) (xs : List ℕ) where
    kept : mine x ≡ true → first_of passes (keep mine (x ∷ xs)) ≡ if passes x then x else first_of passes (keep mine xs)
    unfolding first_of
    kept e = ap (λ (b : Bool). first_of passes (if b then (x ∷ keep mine xs) else keep mine xs)) e

    left : mine x ≡ false → first_of passes (keep mine (x ∷ xs)) ≡ first_of passes (keep mine xs)
    left e = ap (λ (b : Bool). first_of passes (if b then (x ∷ keep mine xs) else keep mine xs)) e

    later : both x ≡ false → first_of passes (keep mine (x ∷ xs)) ≡ first_of passes (keep mine xs) → Found xs → Found (x ∷ xs)
    later w q (none a b) = none (ap (λ (z : Bool). if z then (x ∷ []) else first both xs) w ∙ a) (q ∙ b)
    later w q (one i m y a b) = one i (there m) y (ap (λ (z : Bool). if z then (x ∷ []) else first both xs) w ∙ a) (q ∙ b)

    next : (b d : Bool) → mine x ≡ b → passes x ≡ d → both x ≡ (b && d) → Found xs → Found (x ∷ xs)
    next true true e f w r =
        one x (here refl) w (ap (λ (z : Bool). if z then (x ∷ []) else first both xs) w)
        (kept e ∙ ap (λ (z : Bool). if z then x else first_of passes (keep mine xs)) f)
    next true false e f w r = later w (kept e ∙ ap (λ (z : Bool). if z then x else first_of passes (keep mine xs)) f) r
    next false d e f w r = later w (left e) r

  pub found : (xs : List ℕ) → ((i : ℕ) → In i xs → both i ≡ (mine i && passes i)) → Found xs
  unfolding first_of
  found [] h = none refl refl
  found (x ∷ xs) h = next x xs (mine x) (passes x) refl refl (h x (here refl)) (found xs (λ i m. h i (there m)))
