-- The text of the lines of one kind, for every kind: it grows line by line, and the count goes on over the next line;
-- and the lines at the front of an array are those that a count names.
-- Assumes nothing.
use mathlib.Core.Path.{◌≡◌, refl, sym, ap, ◌∙◌}
use mathlib.Core.List.{List, [], ◌∷◌, ◌++◌, append-nil, map}
use Prim.Native.Nat.{ℕ, zero, suc, ◌+◌, ◌≤◌, ◌<◌}
use native.Mathlib.Numerals.{add-one}
use native.Mathlib.Omega.{arith}
use lib.ListN.{length, get_or, take, drop, take-append-drop}
use lib.Seq.{take-suc}
use Rattle.lists.specs.Lists.{each, below}
use Rattle.lists.proofs.Keep.{map_append, each_append, below_last}
use Rattle.plan.specs.Memory.{counted}
use Rattle.text_lines.specs.Put.{Counts, Put}
use Rattle.text_lines.proofs.Puts.{put_then, counts_first, counts_rest}

module _ {A : Type 0} (line : A → List ℕ) (xs : List A) where
  -- the text of the first i lines
  abbrev pub first_lines : ℕ → List ℕ
  first_lines i = each line (take i xs)

  grown : (i : ℕ) (d : A) → i < length xs → first_lines (suc i) ≡ first_lines i ++ line (get_or xs i d)
  grown i d h =
      ap (each line) (take-suc xs i d h) ∙ each_append line (take i xs) (get_or xs i d ∷ []) ∙ ap (λ (s : List ℕ). first_lines i ++ s) (append-nil (line (get_or xs i d)))

  module _ (i : ℕ) (x : A) (h : i < length xs) (is : x ≡ get_or xs i x) where
    more : first_lines (i + 1) ≡ first_lines i ++ line x
    more = ap first_lines (add-one i) ∙ grown i x h ∙ ap (λ (y : A). first_lines i ++ line y) (sym is)

    whole : each line xs ≡ (first_lines i ++ line x) ++ each line (drop (i + 1) xs)
    whole = ap (each line) (sym (take-append-drop (i + 1) xs)) ∙ each_append line (take (i + 1) xs) (drop (i + 1) xs) ∙ ap (λ (s : List ℕ). s ++ each line (drop (i + 1) xs)) more

    pub counts_line : {l m : List ℕ} {at end : ℕ} → Put l m at end (first_lines i) → Counts at (each line xs) → Counts end (line x)
    counts_line p c = counts_rest p (line x) (counts_first (first_lines i ++ line x) (each line (drop (i + 1) xs)) (rw whole at c))

    pub put_line : {l m o : List ℕ} {at end next : ℕ} → Put l m at end (first_lines i) → Put m o end next (line x) → Put l o at next (first_lines (i + 1))
    put_line p q = rw more (put_then p q)

-- the lines at the front of an array are those that a count names
module _ {A B : Type 0} (line : B → List ℕ) (of : A → B) (none : A) (xs : List A) where
  named : (i : ℕ) → each line (counted of none (suc i) xs) ≡ each line (counted of none i xs) ++ line (of (get_or xs i none))
  unfolding counted
  named i =
      let f : ℕ → B = λ k. of (get_or xs k none) in
      ap (λ (ks : List ℕ). each line (map f ks)) (below_last i)
      ∙ ap (each line) (map_append f (below i) (i ∷ []))
      ∙ each_append line (map f (below i)) (f i ∷ [])
      ∙ ap (λ (s : List ℕ). each line (map f (below i)) ++ s) (append-nil (line (f i)))

  pub counted_lines : (n : ℕ) → n ≤ length xs → each (λ x. line (of x)) (take n xs) ≡ each line (counted of none n xs)
  unfolding counted
  counted_lines zero h = refl
  counted_lines (suc n) h =
      grown (λ x. line (of x)) xs n none (omega arith) ∙ ap (λ (s : List ℕ). s ++ line (of (get_or xs n none))) (counted_lines n (omega arith)) ∙ sym (named n)
