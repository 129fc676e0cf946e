-- The whole text: the reader gives some lines exactly where the text means them; so a text means one plan at most.
-- Assumes nothing.
use mathlib.Core.Path.{◌≡◌, refl, sym, subst, ◌∙◌}
use mathlib.Core.Bool.{true}
use mathlib.Core.List.{List, [], ◌∷◌, ◌++◌, append_assoc, append-nil}
use Prim.Native.Nat.{ℕ}
use Rattle.lists.specs.Lists.{all, each}
use Rattle.lists.proofs.Members.{all_parts, all_joined}
use Rattle.model.specs.Plan.{Lines, Process, Edge}
use Rattle.model.specs.Text.{field, slot_line, process_line, condition_line, edge_line, plan_line, print, short, plan_numbers, slot_numbers, process_numbers, condition_numbers, edge_numbers, numbers, Means}
use Rattle.text_grammar.specs.Parse.{Parsed, none, got, word_at, field_at, closed_at, plan_at, slot_at, process_at, condition_at, edge_at, run_at, lines_at, got_lines, to_end, read_lines}
use Rattle.text_grammar.proofs.Parsed.{not_lines, got_same, parts}
use Rattle.text_grammar.proofs.Forms.{plan_reads, slot_reads, process_reads, condition_reads, edge_reads}
use Rattle.text_grammar.proofs.Runs.{every, run_complete, run_sound}

-- Each run is over where the next lines begin, and at the end.
pub edge_over : edge_at [] ≡ none
unfolding edge_at field_at word_at
edge_over = refl

pub condition_over : (es : List Edge) → condition_at (each edge_line es ++ []) ≡ none
unfolding condition_at closed_at field_at word_at edge_line field
condition_over [] = refl
condition_over (e ∷ es) = refl

pub process_over : (cs : List ℕ) (es : List Edge) → process_at (each condition_line cs ++ (each edge_line es ++ [])) ≡ none
unfolding process_at field_at word_at condition_line edge_line field
process_over [] [] = refl
process_over [] (e ∷ es) = refl
process_over (c ∷ cs) es = refl

pub slot_over : (qs : List Process) (cs : List ℕ) (es : List Edge) → slot_at (each process_line qs ++ (each condition_line cs ++ (each edge_line es ++ []))) ≡ none
unfolding slot_at field_at word_at process_line condition_line edge_line field
slot_over [] [] [] = refl
slot_over [] [] (e ∷ es) = refl
slot_over [] (c ∷ cs) es = refl
slot_over (q ∷ qs) cs es = refl

-- The five parts of a plan: their numbers, and their text in turn.
module _ (a b c d e : List ℕ) where
  abbrev Five : Type 0
  Five = (all short a ≡ true) × (all short b ≡ true) × (all short c ≡ true) × (all short d ≡ true) × (all short e ≡ true)

  five_parts : all short (a ++ b ++ c ++ d ++ e) ≡ true → Five
  five_parts h =
      let u = all_parts short (a ++ b ++ c ++ d) e h in
      let v = all_parts short (a ++ b ++ c) d u.0 in
      let w = all_parts short (a ++ b) c v.0 in
      let x = all_parts short a b w.0 in
      (x.0, x.1, w.1, v.1, u.1)

  five_joined : Five → all short (a ++ b ++ c ++ d ++ e) ≡ true
  five_joined h =
      all_joined short (a ++ b ++ c ++ d) e
      (all_joined short (a ++ b ++ c) d (all_joined short (a ++ b) c (all_joined short a b h.0 h.1) h.2) h.3) h.4

module _ (p : Lines) where
  abbrev PartsShort : Type 0
  PartsShort = Five (plan_numbers p.plan) (each slot_numbers p.slots) (each process_numbers p.processes) (each condition_numbers p.conditions) (each edge_numbers p.edges)

  parts_short : all short (numbers p) ≡ true → PartsShort
  unfolding numbers
  parts_short h =
      five_parts (plan_numbers p.plan) (each slot_numbers p.slots) (each process_numbers p.processes) (each condition_numbers p.conditions) (each edge_numbers p.edges) h

  pub numbers_short : PartsShort → all short (numbers p) ≡ true
  unfolding numbers
  numbers_short h =
      five_joined (plan_numbers p.plan) (each slot_numbers p.slots) (each process_numbers p.processes) (each condition_numbers p.conditions) (each edge_numbers p.edges) h

in_turn : (p : Lines) → print p
    ≡ plan_line p.plan ++ (each slot_line p.slots ++ (each process_line p.processes ++ (each condition_line p.conditions ++ (each edge_line p.edges ++ []))))
unfolding print
in_turn p = regrouped (plan_line p.plan) (each slot_line p.slots) (each process_line p.processes) (each condition_line p.conditions) (each edge_line p.edges)
  where
    regrouped : (a b c d e : List ℕ) → a ++ b ++ c ++ d ++ e ≡ a ++ (b ++ (c ++ (d ++ (e ++ []))))
    regrouped a b c d e = simp (append_assoc, append-nil)

lines_complete : (p : Lines) → all short (numbers p) ≡ true → lines_at (print p) ≡ got p []
unfolding lines_at
lines_complete p h =
    let n = parts_short p h in
    let r₄ : List ℕ = each edge_line p.edges ++ [] in
    let r₃ : List ℕ = each condition_line p.conditions ++ r₄ in
    let r₂ : List ℕ = each process_line p.processes ++ r₃ in
    let r₁ : List ℕ = each slot_line p.slots ++ r₂ in
    rw (
      in_turn p,
      plan_reads.complete p.plan r₁ tt n.0,
      run_complete slot_reads (slot_over [] [] []) p.slots r₂ (every p.slots) n.1 (slot_over p.processes p.conditions p.edges),
      run_complete process_reads (process_over [] []) p.processes r₃ (every p.processes) n.2 (process_over p.conditions p.edges),
      run_complete condition_reads (condition_over []) p.conditions r₄ (every p.conditions) n.3 (condition_over p.edges),
      run_complete edge_reads edge_over p.edges [] (every p.edges) n.4 edge_over,
    )

put_together : (s r₁ r₂ r₃ r₄ r₅ : List ℕ) (p q : Lines) → got q r₅ ≡ got p [] → s ≡ plan_line q.plan ++ r₁ → r₁ ≡ each slot_line q.slots ++ r₂
    → r₂ ≡ each process_line q.processes ++ r₃ → r₃ ≡ each condition_line q.conditions ++ r₄ → r₄ ≡ each edge_line q.edges ++ r₅
    → PartsShort q → Means s p
put_together s r₁ r₂ r₃ r₄ r₅ p q h a b c d e n =
    let z = got_same h in
    subst (Means s) z.0 (record { all_short = numbers_short q n; prints = sym (a ∙ rw (b, c, d, e, z.1) (sym (in_turn q))) })

lines_sound : (s : List ℕ) (p : Lines) → lines_at s ≡ got p [] → Means s p
unfolding lines_at
lines_sound s p h =
    let a = parts (plan_at s) _ h in
    let b = parts (run_at slot_at a.rest) _ a.two in
    let c = parts (run_at process_at b.rest) _ b.two in
    let d = parts (run_at condition_at c.rest) _ c.two in
    let e = parts (run_at edge_at d.rest) _ d.two in
    let f = plan_reads.sound s a.value a.rest a.one in
    let g = run_sound slot_reads (slot_over [] [] []) a.rest b.value b.rest b.one in
    let i = run_sound process_reads (process_over [] []) b.rest c.value c.rest c.one in
    let j = run_sound condition_reads (condition_over []) c.rest d.value d.rest d.one in
    let k = run_sound edge_reads edge_over d.rest e.value e.rest e.one in
    put_together s a.rest b.rest c.rest d.rest e.rest p _ e.two f.0 g.0 i.0 j.0 k.0 (f.2, g.2, i.2, j.2, k.2)

to_end_got : (q : Parsed Lines) (p : Lines) → to_end q ≡ got_lines p → q ≡ got p []
unfolding to_end
to_end_got none p h = not_lines h
to_end_got (got q []) p h = cc
to_end_got (got q (b ∷ s)) p h = not_lines h

pub read_means : {bytes : List ℕ} {p : Lines} → read_lines bytes ≡ got_lines p → Means bytes p
unfolding read_lines
read_means {bytes} {p} h = lines_sound bytes p (to_end_got (lines_at bytes) p h)

pub means_read : {bytes : List ℕ} {p : Lines} → Means bytes p → read_lines bytes ≡ got_lines p
unfolding read_lines to_end
means_read {bytes} {p} m = rw (← m.prints, lines_complete p m.all_short)

pub means_unique : {bytes : List ℕ} {p q : Lines} → Means bytes p → Means bytes q → p ≡ q
means_unique m n = let h = sym (means_read m) ∙ means_read n in cc

pub print_injective : (p q : Lines) → all short (numbers p) ≡ true → all short (numbers q) ≡ true → print p ≡ print q → p ≡ q
print_injective p q h k e = means_unique {bytes = print q} (record { all_short = h; prints = e }) (record { all_short = k; prints = refl })
