-- The first number below n that passes a test, by cases.
-- Assumes nothing.
use Prim.Native.Nat.{ℕ, ◌<◌}
use mathlib.Core.Path.{◌≡◌, refl, ap, ◌∙◌}
use mathlib.Core.Bool.{Bool, true, false}
use mathlib.Core.List.Memᴰ.{head as here}
use mathlib.Core.List.Memᴰ.{not-nil as in_none}
use mathlib.Core.List.Memᴰ.{tail as there}
use mathlib.Core.List.{List, [], ◌∷◌, Memᴰ as In}
use Rattle.lists.specs.Lists.{below}
use Rattle.lists.proofs.Members.{in_below, below_in}
use Rattle.planner_sends.specs.Clocks.{first_or}

-- the first number below n that passes a test, or n
pub data First (n : ℕ) (f : ℕ → Bool) : Type 0 where
  found : (k : ℕ) → k < n → f k ≡ true → first_or n f (below n) ≡ k → First n f
  missing : ((k : ℕ) → k < n → f k ≡ false) → first_or n f (below n) ≡ n → First n f

data Among (d : ℕ) (f : ℕ → Bool) (xs : List ℕ) : Type 0 where
  one : (k : ℕ) → In k xs → f k ≡ true → first_or d f xs ≡ k → Among d f xs
  nothing : ((k : ℕ) → In k xs → f k ≡ false) → first_or d f xs ≡ d → Among d f xs

among : (d : ℕ) (f : ℕ → Bool) (xs : List ℕ) → Among d f xs
unfolding first_or
among d f [] = nothing (λ k m. absurd (in_none m)) refl
among d f (x ∷ xs) = at (f x) refl (among d f xs)
  where
    at : (b : Bool) → f x ≡ b → Among d f xs → Among d f (x ∷ xs)
    at true e r = one x (here refl) e (rw e)
    at false e (one k m t q) = one k (there m) t (rw e q)
    at false e (nothing h q) = nothing (λ k m. in_rest k m) (rw e q)
      where
        in_rest : (k : ℕ) → In k (x ∷ xs) → f k ≡ false
        in_rest k (here q) = ap f q ∙ e
        in_rest k (there m) = h k m

pub first_below : (n : ℕ) (f : ℕ → Bool) → First n f
first_below n f = at (among n f (below n))
  where
    at : Among n f (below n) → First n f
    at (one k m e q) = found k (below_in n m) e q
    at (nothing h q) = missing (λ k l. h k (in_below n k l)) q
