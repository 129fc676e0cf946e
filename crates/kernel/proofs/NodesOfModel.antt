-- For a plan in which refusals 2 to 9 find nothing, the node of a row is that of the line that the row has: its
-- process, its edge's sender or its condition's decider. So the search by the nodes of rows is the model's.
-- Assumes nothing.
use mathlib.Core.Path.{◌≡◌, refl, sym, ap, ◌∙◌}
use mathlib.Core.Logic.{◌⊎◌, inl, inr}
use mathlib.Core.Bool.{Bool, true, false, ◌&&◌}
use mathlib.Core.List.{List, [], ◌∷◌}
use Prim.Native.Nat.{ℕ, suc, ◌+◌, ◌-◌, ◌≤◌, ◌<◌}
use native.Mathlib.Omega.{arith}
use lib.Dec.{eqb, ltb}
use lib.ListN.{length, get_or, drop}
use borrow.Author.Tests.{ltb-true, lt-ltb, le-ltb}
use Rattle.limits.specs.Limits.{ROWS}
use Rattle.lists.proofs.Tests.{two}
use Rattle.lists.proofs.Fill.{fill_at}
use Rattle.model.specs.Plan.{Process, Edge, process, edge}
use Rattle.model.specs.Bus.{rows, sender, row_node}
use Rattle.model.specs.Refusals.{nothing, refused, plan_refusal}
use Rattle.model.specs.Table.{Entry, entries_of, bits_met}
use Rattle.model.specs.Lookup.{Found, entry, none, refusal, fits, find, unless, lookup}
use Rattle.laws.proofs.Good.{Good, good}
use Rattle.plan.specs.declared.Plan.{Plan}
use Rattle.plan.specs.Memory.{process_of, edge_of, no_process, no_edge, lines}
use Rattle.plan.specs.Tests.{at}
use Rattle.plan.proofs.TestsOnLines.{Few, processes_length, edges_length, conditions_length, slots_length, decider_at}
use Rattle.plan.proofs.Counted.{counted_at}
use Rattle.kernel.specs.declared.nodes.RowNodes.{RowNodes}
use Rattle.kernel.specs.Finding.{nodes_to, nodes_of, fits_by, find_by}

-- a refusal of the plan is the answer
pub is_refused : (p : Plan) (ws : List ℕ) (n t h v first r : ℕ) → plan_refusal (lines p) ≡ refused r → lookup (lines p) ws n t h v first ≡ refusal r
unfolding lookup unless
is_refused p ws n t h v first r e = rw (e, unless)

-- one turn of a search, where tests and what is left agree
one_dispatch : (b d : Bool) (i : ℕ) (x y : Found) → b ≡ d → x ≡ y → ◌≡◌ {A = Found} (elim b [ true ↦ entry i | false ↦ x ]) (elim d [ true ↦ entry i | false ↦ y ])
one_dispatch b d i x y e q j = elim (e j) [ true ↦ entry i | false ↦ q j ]

module _ (p : Plan) (ok : plan_refusal (lines p) ≡ nothing) where
  facts : Good (lines p)
  facts = good (lines p) ok

  pub few : Few p
  few =
      record {
        slots = omega (arith, facts.few_slots, slots_length p);
        processes = omega (arith, facts.few_processes, processes_length p);
        conditions = omega (arith, facts.few_conditions, conditions_length p);
        edges = omega (arith, facts.few_edges, edges_length p);
      }

  pub row_count : p.processes + p.edges + p.conditions ≡ rows (lines p)
  row_count = sym (λ j. processes_length p j + edges_length p j + conditions_length p j)

  pub few_rows : rows (lines p) ≤ ROWS
  few_rows = omega (arith, row_count, few.processes, few.edges, few.conditions)

  -- a process's row is its own
  own : (i : ℕ) → i < p.processes → sender (lines p) i ≡ i
  unfolding sender
  own i l = rw (processes_length p, lt-ltb i p.processes l)

  pub of_process : (i : ℕ) → i < p.processes → (get_or p.process i no_process).node ≡ row_node (lines p) i
  unfolding lines row_node
  of_process i l =
      sym (ap (λ (j : ℕ). (process (lines p) j).node) (own i l) ∙ ap (λ (q : Process). q.node) (counted_at process_of no_process p.processes p.process i _ l))

  -- in the nodes of n rows, all processes among them, that of a row's sender is the row's
  at_sender : (n i r : ℕ) {nodes : List ℕ} → nodes ≡ nodes_to p n → p.processes ≤ n → n ≤ ROWS → i < p.processes → i ≡ sender (lines p) r → at nodes i ≡ row_node (lines p) r
  unfolding row_node
  at_sender n i r e u v l q =
      ap (λ (xs : List ℕ). at xs i) e ∙ fill_at ROWS (row_node (lines p)) n i v (omega arith) ∙ ap (λ (j : ℕ). (process (lines p) j).node) (own i l ∙ q)

  from_of : (e : ℕ) → e < p.edges → (get_or p.edge e no_edge).from ≡ (edge (lines p) e).from
  unfolding lines
  from_of e l = sym (ap (λ (x : Edge). x.from) (counted_at edge_of no_edge p.edges p.edge e _ l))

  pub sender_below : (e : ℕ) → e < p.edges → (get_or p.edge e no_edge).from < p.processes
  sender_below e l = omega (arith, from_of e l, facts.from_in e (omega (arith, edges_length p)), processes_length p)

  pub of_edge : (e i : ℕ) {nodes : List ℕ} → nodes ≡ nodes_to p (p.processes + e) → e < p.edges → i ≡ (get_or p.edge e no_edge).from →
      at nodes i ≡ row_node (lines p) (p.processes + e)
  unfolding sender
  of_edge e i h l s =
      let r = p.processes + e in
      let q : r - p.processes ≡ e = omega arith in
      at_sender r i r h (omega arith) (omega (arith, few.processes, few.edges)) (omega (arith, sender_below e l))
      (s ∙ from_of e l ∙ rw (processes_length p, edges_length p, le-ltb r p.processes (omega arith), lt-ltb r (p.processes + p.edges) (omega arith), q))

  pub decider_below : (k : ℕ) → k < p.conditions → at p.condition k < p.processes
  decider_below k l = omega (arith, decider_at p k l, facts.decides k (omega (arith, conditions_length p)), processes_length p)

  pub of_condition : (k i : ℕ) {nodes : List ℕ} → nodes ≡ nodes_to p (p.processes + p.edges + k) → k < p.conditions → i ≡ at p.condition k →
      at nodes i ≡ row_node (lines p) (p.processes + p.edges + k)
  unfolding sender
  of_condition k i h l s =
      let first = p.processes + p.edges in
      let r = first + k in
      let q : r - first ≡ k = omega arith in
      at_sender r i r h (omega arith) (omega (arith, few.processes, few.edges, few.conditions)) (omega (arith, decider_below k l))
      (s ∙ decider_at p k l ∙ rw (processes_length p, edges_length p, le-ltb r p.processes (omega arith), le-ltb r first (omega arith), q))

  module _ (n t h v : ℕ) where
    abbrev test : Entry → Bool
    test = fits_by (nodes_of p).node (nodes_of p).rows n t h v

    fits_same : (e : Entry) → test e ≡ fits (lines p) n t h v e
    unfolding fits_by fits
    fits_same e = by (two (ltb e.row (rows (lines p))))
      where
        rest : ℕ → Bool
        rest x = ltb e.row (rows (lines p)) && eqb x n && eqb e.tick t && bits_met 32 e.known e.values h v

        by : (ltb e.row (rows (lines p)) ≡ true) ⊎ (ltb e.row (rows (lines p)) ≡ false) → rest (at (nodes_of p).node e.row) ≡ rest (row_node (lines p) e.row)
        by (inl q) = ap rest (fill_at ROWS (row_node (lines p)) (rows (lines p)) e.row few_rows (ltb-true e.row (rows (lines p)) q))
        by (inr q) = rw q

    -- and so the search
    find_same : (es : List Entry) (i : ℕ) → find_by test es i ≡ find (lines p) n t h v es i
    unfolding find_by find
    find_same [] i = refl
    find_same (e ∷ es) i =
        one_dispatch (test e) (fits (lines p) n t h v e) i (find_by test es (suc i)) (find (lines p) n t h v es (suc i)) (fits_same e) (find_same es (suc i))

    pub looked_up : {x : RowNodes} → x ≡ nodes_of p → (ws : List ℕ) (first : ℕ) → n < p.slots →
        find_by (fits_by x.node x.rows n t h v) (drop first (entries_of ws)) first ≡ lookup (lines p) ws n t h v first
    unfolding lookup unless
    looked_up e ws first l =
        ap (λ (y : RowNodes). find_by (fits_by y.node y.rows n t h v) (drop first (entries_of ws)) first) e
        ∙ rw (ok, unless, lt-ltb n (length (lines p).slots) (omega (arith, slots_length p))) (find_same (drop first (entries_of ws)) first)

    -- "An unknown node gives none".
    pub unknown : (ws : List ℕ) (first : ℕ) → p.slots ≤ n → lookup (lines p) ws n t h v first ≡ none
    unfolding lookup unless
    unknown ws first l = rw (ok, unless, le-ltb n (length (lines p).slots) (omega (arith, slots_length p)))
