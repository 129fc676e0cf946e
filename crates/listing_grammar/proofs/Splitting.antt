-- The input is split at its first empty line: a plan in its printed form has none, so that a plan, an empty line and
-- any bytes are split into that plan and these bytes.
-- Assumes nothing.
use mathlib.Core.Path.{◌≡◌, refl, ap, sym, subst, ◌∙◌}
use mathlib.Core.Bool.{Bool, true, false, not}
use mathlib.Core.Logic.{◌⊎◌, inl, inr}
use mathlib.Core.List.{List, [], ◌∷◌, ◌++◌, append_assoc, append-nil}
use Prim.Native.Nat.{ℕ, ◌+◌, ◌/◌, ◌%◌, ◌<◌}
use Prim.Native.String.{String}
use native.Mathlib.Omega.{arith}
use borrow.Author.Tests.{ltb-true, ltb-false, ne_eqb}
use lib.Dec.{eqb, ltb}
use Rattle.lists.specs.Lists.{all, each}
use Rattle.lists.proofs.Tests.{two, both, strong}
use Rattle.lists.proofs.Members.{all_joined}
use Rattle.model.specs.Plan.{Lines, PlanLine, Pick, by_urgency, by_number, Waits, waits_all, waits_any, Slot, Process, Edge, When, always, on}
use Rattle.model.specs.Text.{text, decimal, field, pick_text, waits_text, when_text, slot_line, process_line, condition_line, edge_line, plan_line, print}
use Rattle.model.specs.ListingText.{before_empty, after_empty, plan_part, listing_part}
use Rattle.text_grammar.proofs.Numbers.{decimal_small, decimal_large}

-- bytes other than the line feed
abbrev plain : List ℕ → Bool
plain s = all (λ b. not (eqb b 10)) s

record Plain (s : List ℕ) : Type 0 where
  none : plain s ≡ true

joined : {a b : List ℕ} → Plain a → Plain b → Plain (a ++ b)
joined {a} {b} h k = record { none = all_joined (λ b. not (eqb b 10)) a b h.none k.none }

word : (s : String) → plain (text s) ≡ true → Plain (text s)
word s h = record { none = h }

digit_plain : (n : ℕ) → Plain ((48 + n) ∷ [])
digit_plain n = record { none = rw (ne_eqb (48 + n) 10 (λ q. omega arith)) }

decimal_plain : (n : ℕ) → Plain (decimal n)
decimal_plain = strong (λ n. Plain (decimal n)) (λ n r. at n r (two (ltb n 10)))
  where
    at : (n : ℕ) → ((j : ℕ) → j < n → Plain (decimal j)) → (ltb n 10 ≡ true) ⊎ (ltb n 10 ≡ false) → Plain (decimal n)
    at n r (inl e) = rw (decimal_small n (ltb-true n 10 e)) (digit_plain n)
    at n r (inr e) =
        let l = ltb-false n 10 e in
        rw (decimal_large n l) (joined (r (n / 10) (omega arith)) (digit_plain (n % 10)))

-- two parts with a blank between them
beside : {a b : List ℕ} → Plain a → Plain b → Plain (a ++ text " " ++ b)
beside h k = joined (joined h (word " " refl)) k

number : (s : String) → plain (text s) ≡ true → (n : ℕ) → Plain (field s n)
unfolding field
number s h n = joined (joined (joined (joined (word "(" refl) (word s h)) (word " " refl)) (decimal_plain n)) (word ")" refl)

-- A text that is lines, none of them empty: the first empty line is not among them.
abbrev Lined : List ℕ → Type 0
Lined s = (t : List ℕ) → (before_empty true (s ++ t) ≡ s ++ before_empty true t) × (after_empty true (s ++ t) ≡ after_empty true t)

inside : (w t : List ℕ) → plain w ≡ true → (before_empty false (w ++ (10 ∷ t)) ≡ w ++ (10 ∷ before_empty true t)) × (after_empty false (w ++ (10 ∷ t)) ≡ after_empty true t)
unfolding before_empty after_empty
inside [] t h = (refl, refl)
inside (b ∷ w) t h = at (eqb b 10) refl (both (not (eqb b 10)) (plain w) h).0 (inside w t (both (not (eqb b 10)) (plain w) h).1)
  where
    at : (x : Bool) → eqb b 10 ≡ x → not x ≡ true
        → (before_empty false (w ++ (10 ∷ t)) ≡ w ++ (10 ∷ before_empty true t)) × (after_empty false (w ++ (10 ∷ t)) ≡ after_empty true t)
        → (before_empty false ((b ∷ w) ++ (10 ∷ t)) ≡ (b ∷ w) ++ (10 ∷ before_empty true t)) × (after_empty false ((b ∷ w) ++ (10 ∷ t)) ≡ after_empty true t)
    at true e n r = absurd (mathlib.Core.Bool.false≢true n)
    at false e n r = (rw e (ap (λ (l : List ℕ). b ∷ l) r.0), rw e r.1)

a_line : (b : ℕ) (w : List ℕ) → plain (b ∷ w) ≡ true → Lined ((b ∷ w) ++ (10 ∷ []))
unfolding before_empty after_empty
a_line b w h t = at (eqb b 10) refl (both (not (eqb b 10)) (plain w) h).0
  where
    at : (x : Bool) → eqb b 10 ≡ x → not x ≡ true
        → (before_empty true (((b ∷ w) ++ (10 ∷ [])) ++ t) ≡ ((b ∷ w) ++ (10 ∷ [])) ++ before_empty true t) × (after_empty true (((b ∷ w) ++ (10 ∷ [])) ++ t) ≡ after_empty true t)
    at true e n = absurd (mathlib.Core.Bool.false≢true n)
    at false e n =
        let r = inside w t (both (not (eqb b 10)) (plain w) h).1 in (
          rw (e, append_assoc w (10 ∷ []) t, append_assoc w (10 ∷ []) (before_empty true t)) (ap (λ (l : List ℕ). b ∷ l) r.0),
          rw (e, append_assoc w (10 ∷ []) t) r.1,
        )

no_text : Lined []
no_text t = (refl, refl)

more_lines : (a b : List ℕ) → Lined a → Lined b → Lined (a ++ b)
more_lines a b f g t = (
  rw (append_assoc a b t, append_assoc a b (before_empty true t)) ((f (b ++ t)).0 ∙ ap (λ (l : List ℕ). a ++ l) (g t).0),
  rw (append_assoc a b t) ((f (b ++ t)).1 ∙ (g t).1),
)

each_lined : {A : Type 0} (line : A → List ℕ) (xs : List A) → ((x : A) → Lined (line x)) → Lined (each line xs)
each_lined line [] h = no_text
each_lined line (x ∷ xs) h = more_lines (line x) (each line xs) (h x) (each_lined line xs h)

-- a line that begins with a bracket and ends with one
bracket_line : (w : List ℕ) (b : ℕ) (v : List ℕ) → w ≡ b ∷ v → Plain w → Lined (w ++ text ")\n")
bracket_line w b v e h =
    let k : plain (b ∷ v) ≡ true = ap plain (sym e) ∙ h.none in
    subst Lined (append_assoc w (text ")") (text "\n"))
    (subst (λ (u : List ℕ). Lined ((u ++ text ")") ++ text "\n")) (sym e) (a_line b (v ++ text ")") (all_joined (λ b. not (eqb b 10)) (b ∷ v) (text ")") k refl)))

pick_plain : (k : Pick) → Plain (pick_text k)
unfolding pick_text
pick_plain by_urgency = word "(pick urgency)" refl
pick_plain by_number = word "(pick number)" refl

waits_plain : (w : Waits) → Plain (waits_text w)
unfolding waits_text
waits_plain waits_all = word "(waits all)" refl
waits_plain waits_any = word "(waits any)" refl

when_plain : (w : When) → Plain (when_text w)
unfolding when_text
when_plain always = word "always" refl
when_plain (on true k) = number "true" refl k
when_plain (on false k) = number "false" refl k

plan_lined : (l : PlanLine) → Lined (plan_line l)
unfolding plan_line
plan_lined l =
    bracket_line _ 40 _ refl (beside (beside (joined (word "(plan " refl) (number "byte" refl l.byte)) (number "head" refl l.head)) (pick_plain l.pick))

slot_lined : (s : Slot) → Lined (slot_line s)
unfolding slot_line
slot_lined s = bracket_line _ 40 _ refl (beside (joined (word "(slot " refl) (number "node" refl s.node)) (number "bytes" refl s.bytes))

process_lined : (q : Process) → Lined (process_line q)
unfolding process_line
process_lined q =
    bracket_line _ 40 _ refl
    (beside (beside (joined (word "(process " refl) (number "node" refl q.node)) (number "ticks" refl q.ticks)) (waits_plain q.waits))

condition_lined : (i : ℕ) → Lined (condition_line i)
unfolding condition_line
condition_lined i = bracket_line _ 40 _ refl (joined (word "(condition " refl) (number "process" refl i))

edge_lined : (e : Edge) → Lined (edge_line e)
unfolding edge_line
edge_lined e =
    let w : List ℕ = text "(edge " ++ field "from" e.from ++ text " " ++ field "to" e.to ++ text " " ++ field "bytes" e.bytes ++ text " (when " ++ when_text e.when in
    subst Lined (append_assoc w (text ")") (text ")\n"))
    (bracket_line (w ++ text ")") 40 _ refl
    (joined
    (joined (joined (beside (beside (joined (word "(edge " refl) (number "from" refl e.from)) (number "to" refl e.to)) (number "bytes" refl e.bytes)) (word " (when " refl))
    (when_plain e.when)) (word ")" refl)))

print_lined : (p : Lines) → Lined (print p)
unfolding print
print_lined p =
    let a : List ℕ = plan_line p.plan in
    let b : List ℕ = each slot_line p.slots in
    let c : List ℕ = each process_line p.processes in
    let d : List ℕ = each condition_line p.conditions in
    more_lines (a ++ b ++ c ++ d) (each edge_line p.edges)
    (more_lines (a ++ b ++ c) d
    (more_lines (a ++ b) c (more_lines a b (plan_lined p.plan) (each_lined slot_line p.slots slot_lined)) (each_lined process_line p.processes process_lined))
    (each_lined condition_line p.conditions condition_lined)) (each_lined edge_line p.edges edge_lined)

-- a plan, an empty line, and what follows
module _ (p : Lines) (l : List ℕ) where
  pub plan_first : plan_part (print p ++ (10 ∷ l)) ≡ print p
  unfolding plan_part before_empty
  plan_first = (print_lined p (10 ∷ l)).0 ∙ append-nil (print p)

  pub listing_next : listing_part (print p ++ (10 ∷ l)) ≡ l
  unfolding listing_part after_empty
  listing_next = (print_lined p (10 ∷ l)).1
