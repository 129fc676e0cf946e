-- A buffer after a call: its length is as before, the words written stand first, and the rest is as it was.
-- Assumes nothing.
use mathlib.Core.Path.{◌≡◌, refl}
use mathlib.Core.List.{List, [], ◌∷◌, ◌++◌}
use Prim.Native.Nat.{◌≤◌}
use native.Mathlib.Omega.{arith}
use lib.ListN.{length, take, drop, length-append, length-drop}
use Rattle.lists.specs.Front.{front}

module _ {A : Type 0} where
  pub front_length : (words lent : List A) → length words ≤ length lent → length (front words lent) ≡ length lent
  unfolding front
  front_length words lent l = omega (arith, length-append words (drop (length words) lent), length-drop (length words) lent)

  pub front_first : (words rest : List A) → take (length words) (words ++ rest) ≡ words
  front_first [] rest = refl
  front_first (x ∷ xs) rest = λ i. x ∷ front_first xs rest i

  drop_front : (words rest : List A) → drop (length words) (words ++ rest) ≡ rest
  drop_front [] rest = refl
  drop_front (x ∷ xs) rest = drop_front xs rest

  pub front_written : (words lent : List A) → take (length words) (front words lent) ≡ words
  unfolding front
  front_written words lent = front_first words (drop (length words) lent)

  pub front_beyond : (words lent : List A) → drop (length words) (front words lent) ≡ drop (length words) lent
  unfolding front
  front_beyond words lent = drop_front words (drop (length words) lent)
