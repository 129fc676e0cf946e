-- Bracketed fields of a line as the label and the number that are put one after another.
-- Assumes nothing.
use mathlib.Core.Path.{◌≡◌, ◌∙◌}
use mathlib.Core.List.{List, [], ◌∷◌, ◌++◌, append-nil}
use Prim.Native.Nat.{ℕ}
use Prim.Native.String.{String}
use Rattle.lists.proofs.Joined.{regroup}
use Rattle.model.specs.Text.{text, decimal, field}

pub field_then : (name : String) (n : ℕ) (s : List ℕ) → field name n ++ s ≡ text "(" ++ (text name ++ (text " " ++ (decimal n ++ (text ")" ++ s))))
unfolding field
field_then name n s = regroup (text "(") (text name ∷ text " " ∷ decimal n ∷ text ")" ∷ s ∷ []) ∙ simp append-nil
