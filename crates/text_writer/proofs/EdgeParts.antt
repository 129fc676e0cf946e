-- The line of an edge as the labels, numbers and words that are put one after another.
-- Assumes nothing.
use mathlib.Core.Path.{◌≡◌, ◌∙◌}
use mathlib.Core.Bool.{true, false}
use mathlib.Core.List.{[], ◌∷◌, ◌++◌}
use Prim.Native.Nat.{ℕ}
use Rattle.lists.proofs.Joined.{regroup}
use Rattle.model.specs.Plan.{Edge, on}
use Rattle.model.specs.Text.{text, decimal, field, when_text, edge_line}
use Rattle.text_lines.specs.Label.{labelled}
use Rattle.text_lines.proofs.Fields.{field_then}

pub true_parts : (k : ℕ) → when_text (on true k) ≡ labelled "(true " k ++ text ")"
unfolding when_text field
true_parts k = regroup (text "(true ") (decimal k ∷ text ")" ∷ [])

pub false_parts : (k : ℕ) → when_text (on false k) ≡ labelled "(false " k ++ text ")"
unfolding when_text field
false_parts k = regroup (text "(false ") (decimal k ∷ text ")" ∷ [])

pub edge_parts : (e : Edge) →
    edge_line e ≡ labelled "(edge (from " e.from ++ (labelled ") (to " e.to ++ (labelled ") (bytes " e.bytes ++ (text ") (when " ++ (when_text e.when ++ text "))\n"))))
unfolding edge_line
edge_parts e =
    regroup (text "(edge ") (field "from" e.from ∷ text " " ∷ field "to" e.to ∷ text " " ∷ field "bytes" e.bytes ∷ text " (when " ∷ when_text e.when ∷ text "))\n" ∷ [])
    ∙ rw (field_then "from" e.from, field_then "to" e.to, field_then "bytes" e.bytes)
