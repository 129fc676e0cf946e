-- A text whose plan line has no head is not of the form.
-- Assumes nothing.
use mathlib.Core.Path.{◌≡◌, refl, sym, ap, ◌∙◌}
use mathlib.Core.Bool.{true}
use mathlib.Core.List.{List, ◌++◌, append_assoc}
use Prim.Native.Nat.{ℕ}
use Rattle.lists.proofs.Tests.{join}
use Rattle.model.specs.Plan.{Lines, Pick, by_urgency, by_number}
use Rattle.model.specs.Text.{text, field, pick_text, headless_line, short, Means}
use Rattle.text_grammar.specs.Parse.{none, word_at, field_at, plan_at, lines_at, no_lines, to_end, read_lines}
use Rattle.text_grammar.proofs.Numbers.{bracketed}
use Rattle.text_grammar.proofs.Inverse.{field_reads}
use Rattle.text_grammar.proofs.Parsed.{not_lines}
use Rattle.text_grammar.proofs.Whole.{means_read}

-- what follows the byte is no head
no_head : (pick : Pick) (rest : List ℕ) → field_at (text " (head ") (text " " ++ pick_text pick ++ text ")\n" ++ rest) ≡ none
unfolding field_at word_at pick_text
no_head by_urgency rest = refl
no_head by_number rest = refl

module _ (byte : ℕ) (pick : Pick) (rest : List ℕ) where
  abbrev after : List ℕ
  after = text " " ++ pick_text pick ++ text ")\n" ++ rest

  in_turn : headless_line byte pick ++ rest ≡ (text "(plan (byte " ++ bracketed byte) ++ after
  unfolding field
  in_turn = ap (λ (l : List ℕ). text "(plan (byte " ++ l) (regroup (bracketed byte) (text " ") (pick_text pick) (text ")\n") rest)
    where
      regroup : (a b c d e : List ℕ) → a ++ b ++ c ++ d ++ e ≡ a ++ (b ++ c ++ d ++ e)
      regroup a b c d e = simp append_assoc

  none_read : short byte ≡ true → read_lines (headless_line byte pick ++ rest) ≡ no_lines
  unfolding read_lines to_end lines_at plan_at
  none_read h = rw (in_turn, (field_reads (text "(plan (byte ")).complete byte after tt (join (short byte) true h refl), no_head pick rest)

  pub headless_no_form : (p : Lines) → short byte ≡ true → Means (headless_line byte pick ++ rest) p → ⊥
  headless_no_form p h m = not_lines (sym (none_read h) ∙ means_read m)
