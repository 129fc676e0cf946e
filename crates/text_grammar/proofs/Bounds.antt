-- What passes refusals 2 to 9 has numbers of at most six digits and few lines, so its text is short.
-- Assumes nothing.
use mathlib.Core.Path.{◌≡◌, refl}
use mathlib.Core.Bool.{true, false, not}
use mathlib.Core.List.{List, [], ◌∷◌, ◌++◌, Memᴰ as In}
use Prim.Native.Nat.{ℕ, ◌+◌, ◌≤◌, ◌<◌}
use Prim.Native.String.{String}
use native.Mathlib.Omega.{arith}
use borrow.Author.Tests.{leb-true, leb-false, ltb-false, lt-ltb}
use lib.Dec.{eqb, leb}
use lib.ListN.{length, length-append}
use Rattle.lists.specs.Lists.{all, any, each}
use Rattle.lists.proofs.Tests.{neither, join}
use Rattle.lists.proofs.Members.{none_in, all_each}
use Rattle.lists.proofs.Sums.{length_each}
use Rattle.model.specs.Plan.{Lines, PlanLine, Pick, by_urgency, by_number, Waits, waits_all, waits_any, Slot, Process, Edge, When, always, on, decider}
use Rattle.model.specs.Refusals.{nothing, wrong_counts, wrong_plan, wrong_slot, wrong_edge, wrong_ticks, wrong_sizes, no_node, wrong_nodes, no_process, wrong_deciders, wrong_ends, twin_edges, undecided, wrong_when, plan_refusal}
use Rattle.model.specs.Text.{text, decimal, field, pick_text, waits_text, when_text, slot_line, process_line, condition_line, edge_line, plan_line, print, short, when_numbers, plan_numbers, slot_numbers, process_numbers, condition_numbers, edge_numbers, numbers}
use Rattle.laws.proofs.Good.{pass, inside}
use Rattle.text_grammar.proofs.Numbers.{decimal_length}
use Rattle.text_grammar.proofs.Whole.{numbers_short}

-- at most six digits each
abbrev Small : List ℕ → Type 0
Small [] = Unit {0}
Small (n ∷ ns) = (n < 1000000) × Small ns

-- how many lines there are, and that their numbers are small
record Bounds (p : Lines) : Type 0 where
  slots : length p.slots ≤ 8
  processes : length p.processes ≤ 64
  conditions : length p.conditions ≤ 6
  edges : length p.edges ≤ 128
  plan : Small (plan_numbers p.plan)
  slot : (s : Slot) → In s p.slots → Small (slot_numbers s)
  process : (q : Process) → In q p.processes → Small (process_numbers q)
  condition : (i : ℕ) → In i p.conditions → Small (condition_numbers i)
  edge : (e : Edge) → In e p.edges → Small (edge_numbers e)

small : (m n : ℕ) → leb m 100000 ≡ true → n ≤ m → n < 1000000
small m n h l = omega (arith, leb-true m 100000 h)

below_count : (few m n : ℕ) → leb m 100000 ≡ true → few ≤ m → leb few n ≡ false → n < 1000000
below_count few m n h l e = omega (arith, leb-true m 100000 h, leb-false few n e)

small_when : (p : Lines) (i : ℕ) (w : When) → length p.conditions ≤ 6 → undecided p i w ≡ false → Small (when_numbers w)
unfolding undecided when_numbers
small_when p i always l h = tt
small_when p i (on v k) l h =
    (below_count (length p.conditions) 6 k refl l (neither (leb (length p.conditions) k) (not (eqb (decider p k) i)) h).0, tt)

bounds : (p : Lines) → plan_refusal p ≡ nothing → Bounds p
unfolding plan_refusal wrong_counts wrong_plan wrong_slot wrong_edge wrong_ticks wrong_sizes no_node wrong_nodes no_process wrong_deciders wrong_ends wrong_when
bounds p h =
    let s2 = pass 2 (wrong_counts p) _ h in
    let s3 = pass 3 (wrong_sizes p) _ s2.1 in
    let s4 = pass 4 (wrong_nodes p) _ s3.1 in
    let s5 = pass 5 (wrong_deciders p) _ s4.1 in
    let s6 = pass 6 (any (wrong_ends p) p.edges) _ s5.1 in
    let s7 = pass 7 (twin_edges p.edges) _ s6.1 in
    let s8 = pass 8 (any (wrong_when p) p.edges) _ s7.1 in
    let a2 = neither _ _ s2.0 in
    let b2 = neither _ _ a2.0 in
    let c2 = neither _ _ b2.0 in
    let a3 = neither _ _ s3.0 in
    let b3 = neither _ _ a3.0 in
    let c3 = neither _ _ b3.0 in
    let d3 = neither _ _ c3.0 in
    let b4 = neither _ _ (neither _ _ s4.0).0 in
    let slots : length p.slots ≤ 8 = (inside 1 8 (length p.slots) c2.0).1 in
    let processes : length p.processes ≤ 64 = (inside 1 64 (length p.processes) c2.1).1 in
    let conditions : length p.conditions ≤ 6 = ltb-false 6 (length p.conditions) b2.1 in
    let a-node : (n : ℕ) → no_node p n ≡ false → n < 1000000 = λ n e. below_count (length p.slots) 8 n refl slots e in
    let a_process : (i : ℕ) → no_process p i ≡ false → i < 1000000 = λ i e. below_count (length p.processes) 64 i refl processes e in
    record {
      slots = slots;
      processes = processes;
      conditions = conditions;
      edges = ltb-false 128 (length p.edges) a2.1;
      plan = (small 1000 p.plan.byte refl (inside 1 1000 p.plan.byte d3.0).1, (small 16 p.plan.head refl (ltb-false 16 p.plan.head d3.1), tt));
      slot = λ s m.
          (a-node s.node (none_in (λ s. no_node p s.node) b4.0 m), (small 64 s.bytes refl (inside 1 64 s.bytes (none_in wrong_slot c3.1 m)).1, tt));
      process = λ q m.
          (a-node q.node (none_in (λ q. no_node p q.node) b4.1 m), (small 100000 q.ticks refl (inside 1 100000 q.ticks (none_in wrong_ticks a3.1 m)).1, tt));
      condition = λ i m. (a_process i (none_in (no_process p) (neither _ _ s5.0).0 m), tt);
      edge = λ e m.
          let u = neither _ _ (neither _ _ (none_in (wrong_ends p) s6.0 m)).0 in (
            a_process e.from u.0,
            (
              a_process e.to u.1,
              (
                small 64 e.bytes refl (inside 1 64 e.bytes (none_in wrong_edge b3.1 m)).1,
                small_when p e.from e.when conditions (none_in (wrong_when p) s8.0 m),
              ),
            ),
          );
    }

-- numbers of at most six digits have at most nine
small_short : (ns : List ℕ) → Small ns → all short ns ≡ true
unfolding short
small_short [] h = refl
small_short (n ∷ ns) h = let l = h.0 in join (short n) (all short ns) (lt-ltb n 1000000000 (omega arith)) (small_short ns h.1)

pub plan_short : (p : Lines) → plan_refusal p ≡ nothing → all short (numbers p) ≡ true
plan_short p h =
    let b = bounds p h in
    numbers_short p (
      small_short (plan_numbers p.plan) b.plan,
      all_each short slot_numbers p.slots (λ s m. small_short (slot_numbers s) (b.slot s m)),
      all_each short process_numbers p.processes (λ q m. small_short (process_numbers q) (b.process q m)),
      all_each short condition_numbers p.conditions (λ i m. small_short (condition_numbers i) (b.condition i m)),
      all_each short edge_numbers p.edges (λ e m. small_short (edge_numbers e) (b.edge e m)),
    )

-- How long the lines are, and the text.
three : (a b c : List ℕ) → length (a ++ b ++ c) ≡ length a + length b + length c
three a b c = omega (arith, length-append (a ++ b) c, length-append a b)

field_length : (name : String) (n : ℕ) → n < 1000000 → length (field name n) ≤ length (text name) + 9
unfolding field
field_length name n l =
    omega (arith, three (text "(") (text name) (text " "), three (text "(" ++ text name ++ text " ") (decimal n) (text ")"), decimal_length 5 n l)

pick_length : (k : Pick) → length (pick_text k) ≤ 14
unfolding pick_text
pick_length by_urgency = omega arith
pick_length by_number = omega arith

waits_length : (w : Waits) → length (waits_text w) ≤ 11
unfolding waits_text
waits_length waits_all = omega arith
waits_length waits_any = omega arith

when_length : (w : When) → Small (when_numbers w) → length (when_text w) ≤ 14
unfolding when_text when_numbers
when_length always h = omega arith
when_length (on true k) h = omega (arith, field_length "true" k h.0)
when_length (on false k) h = omega (arith, field_length "false" k h.0)

plan_length : (l : PlanLine) → Small (plan_numbers l) → length (plan_line l) ≤ 50
unfolding plan_line
plan_length l h =
    let a : List ℕ = text "(plan " ++ field "byte" l.byte ++ text " " in
    let b : List ℕ = a ++ field "head" l.head ++ text " " in
    omega (
      arith,
      three (text "(plan ") (field "byte" l.byte) (text " "),
      three a (field "head" l.head) (text " "),
      three b (pick_text l.pick) (text ")\n"),
      field_length "byte" l.byte h.0,
      field_length "head" l.head h.1.0,
      pick_length l.pick,
    )

slot_length : (s : Slot) → Small (slot_numbers s) → length (slot_line s) ≤ 36
unfolding slot_line
slot_length s h =
    let a : List ℕ = text "(slot " ++ field "node" s.node ++ text " " in
    omega (
      arith,
      three (text "(slot ") (field "node" s.node) (text " "),
      three a (field "bytes" s.bytes) (text ")\n"),
      field_length "node" s.node h.0,
      field_length "bytes" s.bytes h.1.0,
    )

process_length : (q : Process) → Small (process_numbers q) → length (process_line q) ≤ 51
unfolding process_line
process_length q h =
    let a : List ℕ = text "(process " ++ field "node" q.node ++ text " " in
    let b : List ℕ = a ++ field "ticks" q.ticks ++ text " " in
    omega (
      arith,
      three (text "(process ") (field "node" q.node) (text " "),
      three a (field "ticks" q.ticks) (text " "),
      three b (waits_text q.waits) (text ")\n"),
      field_length "node" q.node h.0,
      field_length "ticks" q.ticks h.1.0,
      waits_length q.waits,
    )

condition_length : (i : ℕ) → Small (condition_numbers i) → length (condition_line i) ≤ 29
unfolding condition_line
condition_length i h = omega (arith, three (text "(condition ") (field "process" i) (text ")\n"), field_length "process" i h.0)

edge_length : (e : Edge) → Small (edge_numbers e) → length (edge_line e) ≤ 70
unfolding edge_line
edge_length e h =
    let a : List ℕ = text "(edge " ++ field "from" e.from ++ text " " in
    let b : List ℕ = a ++ field "to" e.to ++ text " " in
    let c : List ℕ = b ++ field "bytes" e.bytes ++ text " (when " in
    omega (
      arith,
      three (text "(edge ") (field "from" e.from) (text " "),
      three a (field "to" e.to) (text " "),
      three b (field "bytes" e.bytes) (text " (when "),
      three c (when_text e.when) (text "))\n"),
      field_length "from" e.from h.0,
      field_length "to" e.to h.1.0,
      field_length "bytes" e.bytes h.1.1.0,
      when_length e.when h.1.1.1,
    )

pub print_length : (p : Lines) → plan_refusal p ≡ nothing → length (print p) ≤ 16384
unfolding print
print_length p h =
    let b = bounds p h in
    let ss : List ℕ = each slot_line p.slots in
    let qs : List ℕ = each process_line p.processes in
    omega (
      arith,
      three (plan_line p.plan) ss qs,
      three (plan_line p.plan ++ ss ++ qs) (each condition_line p.conditions) (each edge_line p.edges),
      b.slots,
      b.processes,
      b.conditions,
      b.edges,
      plan_length p.plan b.plan,
      length_each slot_line p.slots 36 (λ s m. slot_length s (b.slot s m)),
      length_each process_line p.processes 51 (λ q m. process_length q (b.process q m)),
      length_each condition_line p.conditions 29 (λ i m. condition_length i (b.condition i m)),
      length_each edge_line p.edges 70 (λ e m. edge_length e (b.edge e m)),
    )
