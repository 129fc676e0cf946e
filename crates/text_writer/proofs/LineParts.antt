-- Each line of the plan text but an edge's as the labels, numbers and words that are put one after another.
-- Assumes nothing.
use mathlib.Core.Path.{◌≡◌, ◌∙◌}
use mathlib.Core.List.{List, [], ◌∷◌, ◌++◌, append_assoc}
use Prim.Native.Nat.{ℕ}
use Rattle.lists.proofs.Joined.{regroup}
use Rattle.model.specs.Plan.{Pick, by_urgency, by_number, Waits, waits_all, waits_any, Slot}
use Rattle.model.specs.Text.{text, field, pick_text, waits_text, slot_line, process_line, condition_line, plan_line}
use Rattle.text_lines.specs.Label.{labelled}
use Rattle.text_lines.proofs.Fields.{field_then}

-- how a plan line and a process line end
abbrev pub pick_end : Pick → List ℕ
pick_end by_urgency = text ") (pick urgency))\n"
pick_end by_number = text ") (pick number))\n"

abbrev pub waits_end : Waits → List ℕ
waits_end waits_all = text ") (waits all))\n"
waits_end waits_any = text ") (waits any))\n"

pub plan_parts : (byte head : ℕ) (pick : Pick) →
    plan_line (record { byte = byte; head = head; pick = pick }) ≡ labelled "(plan (byte " byte ++ (labelled ") (head " head ++ pick_end pick)
unfolding plan_line pick_text
plan_parts byte head by_urgency =
    regroup (text "(plan ") (field "byte" byte ∷ text " " ∷ field "head" head ∷ text " " ∷ pick_text by_urgency ∷ text ")\n" ∷ [])
    ∙ rw (field_then "byte" byte, field_then "head" head)
plan_parts byte head by_number =
    regroup (text "(plan ") (field "byte" byte ∷ text " " ∷ field "head" head ∷ text " " ∷ pick_text by_number ∷ text ")\n" ∷ [])
    ∙ rw (field_then "byte" byte, field_then "head" head)

pub slot_parts : (s : Slot) → slot_line s ≡ labelled "(slot (node " s.node ++ (labelled ") (bytes " s.bytes ++ text "))\n")
unfolding slot_line
slot_parts s =
    regroup (text "(slot ") (field "node" s.node ∷ text " " ∷ field "bytes" s.bytes ∷ text ")\n" ∷ [])
    ∙ rw (field_then "node" s.node, field_then "bytes" s.bytes)

pub process_parts : (node ticks : ℕ) (waits : Waits) →
    process_line (record { node = node; ticks = ticks; waits = waits }) ≡ labelled "(process (node " node ++ (labelled ") (ticks " ticks ++ waits_end waits)
unfolding process_line waits_text
process_parts node ticks waits_all =
    regroup (text "(process ") (field "node" node ∷ text " " ∷ field "ticks" ticks ∷ text " " ∷ waits_text waits_all ∷ text ")\n" ∷ [])
    ∙ rw (field_then "node" node, field_then "ticks" ticks)
process_parts node ticks waits_any =
    regroup (text "(process ") (field "node" node ∷ text " " ∷ field "ticks" ticks ∷ text " " ∷ waits_text waits_any ∷ text ")\n" ∷ [])
    ∙ rw (field_then "node" node, field_then "ticks" ticks)

pub condition_parts : (i : ℕ) → condition_line i ≡ labelled "(condition (process " i ++ text "))\n"
unfolding condition_line
condition_parts i = append_assoc (text "(condition ") (field "process" i) (text ")\n") ∙ rw (field_then "process" i)
