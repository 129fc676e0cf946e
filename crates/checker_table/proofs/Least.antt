-- The least, over a list, of the number of the first sentence that applies to each element is the number of the first
-- sentence that applies to some element: so sentences tried element by element give the refusal of sentences each tried
-- over the whole list before the next.
-- Assumes nothing.
use Rattle.std.specs.Prelude.{if◌then◌else◌}
use mathlib.Core.Path.{◌≡◌, refl, ap, ◌∙◌}
use mathlib.Core.Bool.{Bool, true, false, ◌||◌}
use mathlib.Core.List.Memᴰ.{head as here}
use mathlib.Core.List.Memᴰ.{tail as there}
use mathlib.Core.List.{List, [], ◌∷◌, Memᴰ as In}
use Prim.Native.Nat.{ℕ, ◌+◌, ◌-◌, ◌<◌, ◌≤◌, min}
use native.Mathlib.Omega.{arith}
use lib.Dec.{eqb}
use Rattle.lists.specs.Lists.{any, upfrom, below}
use Rattle.lists.proofs.Loops.{upfrom_start, upfrom_next, upfrom_end}
use Rattle.model.specs.Refusals.{Refusal, refused, sentence}
use Rattle.checker_table.specs.FirstRefusal.{first_of}
use Rattle.checker_table.specs.Combinations.{least}

-- a loop that takes the least so far: with what is left it gives the whole
module _ (f : ℕ → ℕ) where
  abbrev pub Fewest : ℕ → ℕ → ℕ → Type 0
  Fewest n i so_far = least f (below n) ≡ min so_far (least f (upfrom i (n - i)))

  least_most : (xs : List ℕ) → least f xs ≤ 20
  least_most [] = omega arith
  least_most (x ∷ xs) = let l = least_most xs in omega arith

  pub fewest_start : (n : ℕ) → Fewest n 0 20
  fewest_start n =
      let q : least f (below n) ≡ least f (upfrom 0 (n - 0)) = ap (least f) (upfrom_start n) in
      omega (arith, least_most (upfrom 0 (n - 0)))

  pub fewest_next : (n i so_far : ℕ) {next : ℕ} → i < n → Fewest n i so_far → next ≡ min so_far (f i) → Fewest n (i + 1) next
  fewest_next n i so_far l h s =
      let q : least f (upfrom i (n - i)) ≡ min (f i) (least f (upfrom (i + 1) (n - (i + 1)))) = ap (least f) (upfrom_next n i l) in
      omega arith

  pub fewest_end : (n i so_far : ℕ) → n ≤ i → so_far ≤ 20 → Fewest n i so_far → so_far ≡ least f (below n)
  fewest_end n i so_far l m h =
      let q : least f (upfrom i (n - i)) ≡ 20 = ap (least f) (upfrom_end n i l) in
      omega arith

-- the refusal of a number, 20 for what comes next
abbrev pub refusal_at : ℕ → Refusal → Refusal
refusal_at n next = if eqb n 20 then next else refused n

refusal_step : (n : ℕ) (b : Bool) (m : ℕ) (next : Refusal) → eqb n 20 ≡ false → refusal_at (if b then n else m) next ≡ sentence n b (refusal_at m next)
refusal_step n true m next e = rw e
refusal_step n false m next e = refl

not_below : (n m k : ℕ) (b : Bool) → n ≤ m → n ≤ k → n ≤ (if b then m else k)
not_below n m k true l h = l
not_below n m k false l h = h

module _ {A : Type 0} where
  pub least_same : (f g : A → ℕ) (xs : List A) → ((x : A) → In x xs → f x ≡ g x) → least f xs ≡ least g xs
  least_same f g [] h = refl
  least_same f g (x ∷ xs) h = λ i. min (h x (here refl) i) (least_same f g xs (λ y m. h y (there m)) i)

  pub least_in : (f : A → ℕ) (xs : List A) {x : A} → In x xs → least f xs ≤ f x
  least_in f (y ∷ ys) {x} (here q) = let e : f x ≡ f y = ap f q in omega arith
  least_in f (y ∷ ys) (there m) = let l = least_in f ys m in omega arith
  least_in f [] {x = x} x3 = elim x3 [ ]

  -- a sentence whose number is not above those behind it: the least is its number where it applies to some element
  least_sentence : (n : ℕ) (t : A → Bool) (g : A → ℕ) (xs : List A) → n ≤ 20 → ((x : A) → n ≤ g x) →
      least (λ x. if t x then n else g x) xs ≡ (if any t xs then n else least g xs)
  least_sentence n t g [] l h = refl
  least_sentence n t g (x ∷ xs) l h = at (t x) (any t xs) (least_sentence n t g xs l h)
    where
      low : (ys : List A) → n ≤ least g ys
      low [] = l
      low (y ∷ ys) = omega (arith, h y, low ys)

      at : (a b : Bool) → least (λ x. if t x then n else g x) xs ≡ (if b then n else least g xs) →
          min (if a then n else g x) (least (λ x. if t x then n else g x) xs) ≡ (if (a || b) then n else min (g x) (least g xs))
      at true true q = omega arith
      at true false q = omega (arith, low xs)
      at false true q = omega (arith, h x)
      at false false q = ap (min (g x)) q

  least_none : (xs : List A) → least (λ x. 20) xs ≡ 20
  least_none [] = refl
  least_none (x ∷ xs) = let q = least_none xs in omega arith

  -- one sentence in front of others
  in_front : (n : ℕ) (t : A → Bool) (g : A → ℕ) (xs : List A) (next r : Refusal) → n < 20 → eqb n 20 ≡ false → ((x : A) → n ≤ g x) →
      refusal_at (least g xs) next ≡ r → refusal_at (least (λ x. if t x then n else g x) xs) next ≡ sentence n (any t xs) r
  in_front n t g xs next r l e h q =
      ap (λ (k : ℕ). refusal_at k next) (least_sentence n t g xs (omega arith) h)
      ∙ refusal_step n (any t xs) (least g xs) next e
      ∙ ap (sentence n (any t xs)) q

  module _ (f14 f15 f16 f17 f18 f19 : A → Bool) where
    abbrev g18 : A → ℕ
    g18 x = if f18 x then 18 else if f19 x then 19 else 20

    abbrev g17 : A → ℕ
    g17 x = if f17 x then 17 else g18 x

    abbrev g16 : A → ℕ
    g16 x = if f16 x then 16 else g17 x

    abbrev g15 : A → ℕ
    g15 x = first_of (f15 x) (f16 x) (f17 x) (f18 x) (f19 x)

    low_18 : (n : ℕ) → n ≤ 18 → (x : A) → n ≤ g18 x
    low_18 n l x = not_below n 18 _ (f18 x) l (not_below n 19 20 (f19 x) (omega arith) (omega arith))

    low_17 : (n : ℕ) → n ≤ 17 → (x : A) → n ≤ g17 x
    low_17 n l x = not_below n 17 _ (f17 x) l (low_18 n (omega arith) x)

    low_16 : (n : ℕ) → n ≤ 16 → (x : A) → n ≤ g16 x
    low_16 n l x = not_below n 16 _ (f16 x) l (low_17 n (omega arith) x)

    low_15 : (n : ℕ) → n ≤ 15 → (x : A) → n ≤ g15 x
    low_15 n l x = not_below n 15 _ (f15 x) l (low_16 n (omega arith) x)

    pub least_chain : (xs : List A) (next : Refusal) →
        refusal_at (least (λ x. if f14 x then 14 else first_of (f15 x) (f16 x) (f17 x) (f18 x) (f19 x)) xs) next
        ≡ sentence 14 (any f14 xs) (sentence 15 (any f15 xs) (sentence 16 (any f16 xs) (sentence 17 (any f17 xs) (sentence 18 (any f18 xs) (sentence 19 (any f19 xs) next)))))
    least_chain xs next =
        in_front 14 f14 g15 xs next _ (omega arith) refl (low_15 14 (omega arith))
        (in_front 15 f15 g16 xs next _ (omega arith) refl (low_16 15 (omega arith))
        (in_front 16 f16 g17 xs next _ (omega arith) refl (low_17 16 (omega arith))
        (in_front 17 f17 g18 xs next _ (omega arith) refl (low_18 17 (omega arith))
        (in_front 18 f18 (λ x. if f19 x then 19 else 20) xs next _ (omega arith) refl (λ x. not_below 18 19 20 (f19 x) (omega arith) (omega arith))
        (in_front 19 f19 (λ x. 20) xs next _ (omega arith) refl (λ x. omega arith)
        (ap (λ (k : ℕ). refusal_at k next) (least_none xs)))))))
