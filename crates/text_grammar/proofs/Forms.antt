-- The reader of each kind of line takes exactly its printed forms.
-- Assumes nothing.
use mathlib.Core.Path.{◌≡◌, refl, ap, ◌∙◌}
use mathlib.Core.Bool.{Bool, true, false}
use mathlib.Core.Logic.{◌⊎◌, inl, inr}
use mathlib.Core.List.{List, [], ◌++◌, append_assoc}
use Prim.Native.Nat.{ℕ}
use Rattle.model.specs.Plan.{PlanLine, Pick, by_urgency, by_number, Waits, waits_all, waits_any, Slot, Process, Edge, When, always, on}
use Rattle.model.specs.Text.{text, field, pick_text, waits_text, when_text, slot_line, process_line, condition_line, edge_line, plan_line, when_numbers, plan_numbers, slot_numbers, process_numbers, condition_numbers, edge_numbers}
use Rattle.text_grammar.specs.Parse.{value_at, word_at, field_at, closed_at, pick_at, waits_at, on_at, when_at, plan_at, slot_at, process_at, condition_at, edge_at}
use Rattle.text_grammar.proofs.Numbers.{bracketed}
use Rattle.text_grammar.proofs.Inverse.{Reads, Inverse, whole, field_reads, closed_reads, value_reads, choice_reads, first, made, either}

-- the ends of lines
abbrev pick_end : Pick → List ℕ
pick_end k = text " " ++ pick_text k ++ text ")\n"

pick_reads : Inverse pick_at pick_end (λ k. [])
unfolding pick_at pick_text word_at
pick_reads = choice_reads (text " (pick urgency))\n") (text " (pick number))\n") by_urgency by_number refl refl (λ s. refl) every
  where
    every : (k : Pick) → (by_urgency ≡ k) ⊎ (by_number ≡ k)
    every by_urgency = inl refl
    every by_number = inr refl

abbrev waits_end : Waits → List ℕ
waits_end w = text " " ++ waits_text w ++ text ")\n"

waits_reads : Inverse waits_at waits_end (λ w. [])
unfolding waits_at waits_text word_at
waits_reads = choice_reads (text " (waits all))\n") (text " (waits any))\n") waits_all waits_any refl refl (λ s. refl) every
  where
    every : (w : Waits) → (waits_all ≡ w) ⊎ (waits_any ≡ w)
    every waits_all = inl refl
    every waits_any = inr refl

abbrev when_end : When → List ℕ
when_end w = text " (when " ++ when_text w ++ text "))\n"

on_reads : (v : Bool) (w : List ℕ) → ((k : ℕ) → (w ++ bracketed k) ++ text "))\n" ≡ when_end (on v k)) → Reads (on_at v w) (λ y. (k : ℕ) × (on v k ≡ y)) when_end when_numbers
unfolding on_at when_numbers
on_reads v w same = made (closed_reads w (text "))\n")) (on v) same (λ k. refl)

when_reads : Inverse when_at when_end when_numbers
unfolding when_at when_text when_numbers field value_at on_at closed_at field_at word_at
when_reads =
    whole
    (either (on false)
    (either (on true) (value_reads (text " (when always))\n") always refl refl) (on_reads true (text " (when (true ") (λ k. refl)) (λ k s. refl))
    (on_reads false (text " (when (false ") (λ k. refl)) (λ k s. refl))
    every (λ w. refl)
  where
    every : (w : When) → (((u : Unit {0}) × (always ≡ w)) ⊎ ((k : ℕ) × (on true k ≡ w))) ⊎ ((k : ℕ) × (on false k ≡ w))
    every always = inl (inl (tt, refl))
    every (on true k) = inl (inr (k, refl))
    every (on false k) = inr (k, refl)

-- The lines are put together from the left, the reader takes them apart from the left.
regroup : (a b c d : List ℕ) → a ++ (b ++ (c ++ d)) ≡ a ++ b ++ c ++ d
regroup a b c d = simp append_assoc

pub plan_reads : Inverse plan_at plan_line plan_numbers
unfolding plan_at plan_line field
plan_reads =
    whole
    (first (field_reads (text "(plan (byte ")) (λ l. l.byte) (λ n l known. ap (λ (z : PlanLine). z.byte) known.1) (λ n.
    first (field_reads (text " (head ")) (λ l. l.head) (λ h l known. ap (λ (z : PlanLine). z.head) known.1) (λ h.
    made pick_reads (λ k. record { byte = n; head = h; pick = k }) (λ k. refl) (λ k. refl))))
    (λ l. (l.pick, refl))
    (λ l.
    let a : List ℕ = bracketed l.byte in
    let b : List ℕ = field "head" l.head in
    ap (λ z. text "(plan (byte " ++ z)
    (regroup a (text " ") b (pick_end l.pick) ∙ regroup (a ++ text " " ++ b) (text " ") (pick_text l.pick) (text ")\n")))

pub slot_reads : Inverse slot_at slot_line slot_numbers
unfolding slot_at slot_line field
slot_reads =
    whole
    (first (field_reads (text "(slot (node ")) (λ s. s.node) (λ n s known. ap (λ (z : Slot). z.node) known.1) (λ n.
    made (closed_reads (text " (bytes ") (text ")\n")) (λ b. record { node = n; bytes = b }) (λ b. refl) (λ b. refl)))
    (λ s. (s.bytes, refl))
    (λ s. ap (λ l. text "(slot (node " ++ l) (regroup (bracketed s.node) (text " ") (field "bytes" s.bytes) (text ")\n")))

pub process_reads : Inverse process_at process_line process_numbers
unfolding process_at process_line field
process_reads =
    whole
    (first (field_reads (text "(process (node ")) (λ q. q.node) (λ n q known. ap (λ (z : Process). z.node) known.1) (λ n.
    first (field_reads (text " (ticks ")) (λ q. q.ticks) (λ t q known. ap (λ (z : Process). z.ticks) known.1) (λ t.
    made waits_reads (λ w. record { node = n; ticks = t; waits = w }) (λ w. refl) (λ w. refl))))
    (λ q. (q.waits, refl))
    (λ q.
    let a : List ℕ = bracketed q.node in
    let b : List ℕ = field "ticks" q.ticks in
    ap (λ l. text "(process (node " ++ l)
    (regroup a (text " ") b (waits_end q.waits) ∙ regroup (a ++ text " " ++ b) (text " ") (waits_text q.waits) (text ")\n")))

pub condition_reads : Inverse condition_at condition_line condition_numbers
unfolding condition_at condition_line field
condition_reads = whole (closed_reads (text "(condition (process ") (text ")\n")) (λ i. tt) (λ i. refl)

pub edge_reads : Inverse edge_at edge_line edge_numbers
unfolding edge_at edge_line field
edge_reads =
    whole
    (first (field_reads (text "(edge (from ")) (λ e. e.from) (λ f e known. ap (λ (z : Edge). z.from) known.1) (λ f.
    first (field_reads (text " (to ")) (λ e. e.to) (λ t e known. ap (λ (z : Edge). z.to) known.1) (λ t.
    first (field_reads (text " (bytes ")) (λ e. e.bytes) (λ b e known. ap (λ (z : Edge). z.bytes) known.1) (λ b.
    made when_reads (λ w. record { from = f; to = t; bytes = b; when = w }) (λ w. refl) (λ w. refl)))))
    (λ e. (e.when, refl))
    (λ e.
    let a : List ℕ = bracketed e.from in
    let b : List ℕ = field "to" e.to in
    let c : List ℕ = field "bytes" e.bytes in
    ap (λ l. text "(edge (from " ++ l)
    (regroup a (text " ") b (text " " ++ (c ++ when_end e.when))
    ∙ regroup (a ++ text " " ++ b) (text " ") c (when_end e.when)
    ∙ regroup (a ++ text " " ++ b ++ text " " ++ c) (text " (when ") (when_text e.when) (text "))\n")))
