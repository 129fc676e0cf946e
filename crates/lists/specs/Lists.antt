-- Tests, lists and numbers: what the definitions of document 01 are written with.
-- Assumes nothing.
use Rattle.std.specs.Prelude.{cond, ℕ, zero, suc, ◌+◌, max, Bool, true, false, ◌&&◌, ◌||◌, List, [], ◌∷◌, ◌++◌, eqb, set, replicate}

-- Of `cond b x y`, which is `if b then x else y`, both branches are computed: a definition with two recursive calls says
-- `elim` instead.
module _ {ℓ} {A : Type ℓ} where
  abbrev pub any : (A → Bool) → List A → Bool
  any f [] = false
  any f (x ∷ xs) = f x || any f xs

  abbrev pub all : (A → Bool) → List A → Bool
  all f [] = true
  all f (x ∷ xs) = f x && all f xs

  -- the elements that pass a test
  abbrev pub keep : (A → Bool) → List A → List A
  keep f [] = []
  keep f (x ∷ xs) = cond (f x) (x ∷ keep f xs) (keep f xs)

  -- the first element that passes a test: a list of one, or of none
  abbrev pub first : (A → Bool) → List A → List A
  first f [] = []
  first f (x ∷ xs) = cond (f x) (x ∷ []) (first f xs)

  abbrev pub null : List A → Bool
  null [] = true
  null (x ∷ xs) = false

module _ {ℓ κ} {A : Type ℓ} {B : Type κ} where
  -- what a function gives for each element, one after another
  abbrev pub each : (A → List B) → List A → List B
  each f [] = []
  each f (x ∷ xs) = f x ++ each f xs

-- the numbers a, a + 1, .., n of them
abbrev pub upfrom : ℕ → ℕ → List ℕ
upfrom a zero = []
upfrom a (suc n) = a ∷ upfrom (suc a) n

abbrev pub below : ℕ → List ℕ
below n = upfrom 0 n

abbrev pub sum : List ℕ → ℕ
sum [] = 0
sum (x ∷ xs) = x + sum xs

-- the greatest of some numbers, 0 if there are none
abbrev pub greatest : List ℕ → ℕ
greatest [] = 0
greatest (x ∷ xs) = max x (greatest xs)

-- two lists hold the same numbers in the same order
unfoldable pub same_numbers : List ℕ → List ℕ → Bool
same_numbers [] [] = true
same_numbers [] (y ∷ ys) = false
same_numbers (x ∷ xs) [] = false
same_numbers (x ∷ xs) (y ∷ ys) = eqb x y && same_numbers xs ys

-- a number stands twice
unfoldable pub repeated : List ℕ → Bool
repeated [] = false
repeated (x ∷ xs) = any (eqb x) xs || repeated xs

-- a function's value at j stands at a number below j too
unfoldable pub earlier : (ℕ → ℕ) → ℕ → Bool
earlier f j = any (λ i. eqb (f i) (f j)) (below j)

-- an array of `size` zeros of which the first n are filled one by one
unfoldable pub fill : ℕ → (ℕ → ℕ) → ℕ → List ℕ
fill size f zero = replicate size 0
fill size f (suc n) = set (fill size f n) n (f n)
