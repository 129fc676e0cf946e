-- The array of due rows says of each row of the plan whether it is due in the combination.
-- Assumes nothing.
use Rattle.std.specs.Prelude.{if◌then◌else◌}
use mathlib.Core.Path.{◌≡◌, refl, sym, ap, ◌∙◌}
use mathlib.Core.Bool.{Bool, true, false, not, ◌&&◌}
use mathlib.Core.List.{List, [], ◌∷◌}
use Prim.Native.Nat.{ℕ, zero, suc, ◌+◌, ◌-◌, ◌^◌, ◌≤◌, ◌<◌}
use native.Mathlib.Omega.{arith}
use lib.Dec.{eqb}
use lib.ListN.{length, get_or, set, replicate, length-map}
use lib.Seq.{ext_get_or}
use borrow.Author.Tests.{eqb-true, eqb-false, lt-ltb, le-ltb}
use Rattle.lists.proofs.Fill.{zeros_at, fill_at}
use Rattle.model.specs.Plan.{Lines, When, always, on, edge, decider, local}
use Rattle.model.specs.Activity.{Heard, heard, unheard, is, meets, all_heard, combinations, may_run, active, carries}
use Rattle.model.specs.Bus.{rows, edge_row, condition_row}
use Rattle.model.specs.Log.{known}
use Rattle.model.specs.Checking.{due}
use Rattle.laws.proofs.Good.{Good}
use Rattle.laws.proofs.Active.{heard_all}
use Rattle.laws.proofs.Rows.{Kind, a_process, an_edge, a_condition, kind, known_at, known_length, process_due, edge_due, condition_due}
use Rattle.log_queries.specs.Reading.{bit, came_by, within, runs_by, may_run_by}
use Rattle.log_queries.specs.Holding.{met_in, Runs}
use Rattle.log_queries.proofs.Running.{may_run_link}
use Rattle.plan_index.specs.declared.PlanIndex.{PlanIndex}
use Rattle.plan_layout.specs.Unmet.{unmet_in}
use Rattle.plan_layout.specs.Indexed.{Indexed}
use Rattle.checker_rows.specs.Due.{due_edge, due_row, due_by, active_by, due_of}
use Rattle.checker_rows.proofs.ColumnBits.{numbered_length}

-- from clock 1 on every row is over
ones_at : (size k : ℕ) → k < size → ◌≡◌ {A = ℕ} (get_or (replicate size 1) k 0) 1
ones_at zero k l = absurd (omega arith)
ones_at (suc size) zero l = refl
ones_at (suc size) (suc k) l = ones_at size k (omega arith)

over_then : (r : ℕ) → r < 198 → came_by (replicate 198 1) 1 r ≡ true
unfolding came_by
over_then r l = ap (λ (x : ℕ). within x 1) (ones_at 198 r l)

-- so that every value is heard
all_known : (p : Lines) → Good p → (c : List Bool) → length c ≡ length p.conditions → known p c (came_by (replicate 198 1) 1) ≡ all_heard c
all_known p g c q =
    let done : ℕ → Bool = came_by (replicate 198 1) 1 in
    let n = known_length p c done in
    ext_get_or unheard (known p c done) (all_heard c) (n ∙ sym q ∙ sym (length-map c heard))
    (λ k l.
    let u : k < length p.conditions = omega arith in
    known_at p c done k u
    ∙ ap (λ (b : Bool). if b then heard (get_or c k false) else unheard)
    (over_then (condition_row p k) (omega (arith, g.few_processes, g.few_edges, g.few_conditions)))
    ∙ sym (heard_all c k (omega arith)))

-- an array of what may run has 1 and 0
bit_most : (b : Bool) → bit b ≤ 1
bit_most true = omega arith
bit_most false = omega arith

set_most : (xs : List ℕ) (n v i : ℕ) → v ≤ 1 → ((i : ℕ) → get_or xs i 0 ≤ 1) → get_or (set xs n v) i 0 ≤ 1
set_most [] n v i u h = h i
set_most (x ∷ xs) zero v zero u h = u
set_most (x ∷ xs) zero v (suc i) u h = h (suc i)
set_most (x ∷ xs) (suc n) v zero u h = h zero
set_most (x ∷ xs) (suc n) v (suc i) u h = set_most xs n v i u (λ i. h (suc i))

module _ (from knownby unmet rows : List ℕ) (u : ℕ) (asany first into : List ℕ) where
  run_most : (n i : ℕ) → get_or (may_run_by from knownby unmet rows u asany first into n) i 0 ≤ 1
  unfolding may_run_by
  run_most zero i = omega (arith, zeros_at 64 i)
  run_most (suc n) i =
      set_most (may_run_by from knownby unmet rows u asany first into n) n (bit (runs_by from knownby unmet rows u asany first into (may_run_by from knownby unmet rows u asany first into n) n)) i
      (bit_most (runs_by from knownby unmet rows u asany first into (may_run_by from knownby unmet rows u asany first into n) n)) (run_most n)

one_or_zero : (x : ℕ) (a : Bool) → x ≤ 1 → eqb x 0 ≡ not a → x ≡ (if a then 1 else 0)
one_or_zero x true l e = let n : x ≡ 0 → ⊥ = eqb-false x 0 e in omega (arith, n)
one_or_zero x false l e = eqb-true x 0 e

-- a message is due just where its sender is active, its `when` is met and it is between nodes
edge_bits : (l m a : Bool) → ◌≡◌ {A = ℕ} (if l then 0 else if m then (if a then 1 else 0) else 0) (if ((a && m) && not l) then 1 else 0)
edge_bits true true true = refl
edge_bits true true false = refl
edge_bits true false true = refl
edge_bits true false false = refl
edge_bits false true true = refl
edge_bits false true false = refl
edge_bits false false true = refl
edge_bits false false false = refl

meets_same : (c : List Bool) (w : When) → ((v : Bool) (k : ℕ) → w ≡ on v k → k < length c) → meets (all_heard c) w ≡ met_in c w
meets_same c always n = refl
meets_same c (on v k) n = ap (λ (h : Heard). is h v) (heard_all c k (n v k refl))

module _ (p : Lines) (g : Good p) (b : PlanIndex) (h : Indexed p b) (c : ℕ) (l : c < 2 ^ length p.conditions) where
  abbrev C : List Bool
  C = get_or (combinations p) c []

  abbrev missed : List ℕ
  missed = unmet_in b c

  count : length C ≡ length p.conditions
  count = numbered_length p g c l

  pub active_runs : Runs (active_by b (unmet_in b c)) (may_run p (all_heard (get_or (combinations p) c [])))
  unfolding active_by
  active_runs i =
      (λ j. eqb (get_or (may_run_by b.from b.knownby missed (replicate 198 1) 1 b.asany b.intofirst b.into (h.processes_count j)) i 0) 0)
      ∙ may_run_link p g C b.from b.knownby missed b.remote b.asany b.intofirst b.into (replicate 198 1) 1 (h.holds c l) i
      ∙ (λ j. not (get_or (may_run p (all_known p g C count j)) i false))

  active_at : (i : ℕ) → get_or (active_by b missed) i 0 ≡ (if active p C i then 1 else 0)
  unfolding active_by active
  active_at i =
      one_or_zero (get_or (active_by b missed) i 0) (active p C i)
      (run_most b.from b.knownby missed (replicate 198 1) 1 b.asany b.intofirst b.into b.processes i) (active_runs i)

  edge_at : (e : ℕ) → e < length p.edges → due_edge b.from missed b.remote (active_by b missed) e ≡ (if due p C (edge_row p e) then 1 else 0)
  unfolding carries
  edge_at e u =
      let k = h.holds c l in
      (λ j.
      if k.locals e j
      then 0
      else if (k.met e ∙ sym (meets_same C (edge p e).when (λ v k q. let z = (g.decided e u v k q).0 in omega (arith, count)))) j
      then (ap (λ (i : ℕ). get_or (active_by b missed) i 0) (k.senders e) ∙ active_at (edge p e).from) j
      else 0)
      ∙ edge_bits (local p e) (meets (all_heard C) (edge p e).when) (active p C (edge p e).from)
      ∙ ap (λ (t : Bool). if t then 1 else 0) (sym (edge_due p C e u))

  kind_at : (r : ℕ) → Kind p r →
      due_row (length p.processes) (length p.processes + length p.edges) b.from missed b.remote b.decider (active_by b missed) r
      ≡ (if due p C r then 1 else 0)
  kind_at r (a_process i u) = rw (lt-ltb i (length p.processes) u) (active_at i ∙ ap (λ (t : Bool). if t then 1 else 0) (sym (process_due p C i u)))
  kind_at r (an_edge e u) =
      let back : edge_row p e - length p.processes ≡ e = omega arith in
      rw (le-ltb (edge_row p e) (length p.processes) (omega arith), lt-ltb (edge_row p e) (length p.processes + length p.edges) (omega arith))
      (ap (due_edge b.from missed b.remote (active_by b missed)) back ∙ edge_at e u)
  kind_at r (a_condition k u) =
      let back : condition_row p k - (length p.processes + length p.edges) ≡ k = omega arith in
      rw (le-ltb (condition_row p k) (length p.processes) (omega arith), le-ltb (condition_row p k) (length p.processes + length p.edges) (omega arith))
      (ap (λ (j : ℕ). get_or (active_by b missed) (get_or b.decider j 0) 0) back
      ∙ ap (λ (i : ℕ). get_or (active_by b missed) i 0) (h.deciders k u)
      ∙ active_at (decider p k) ∙ ap (λ (t : Bool). if t then 1 else 0) (sym (condition_due p C k)))

  pub due_link : (r : ℕ) → r < rows p → get_or (due_of b c) r 0 ≡ (if due p (get_or (combinations p) c []) r then 1 else 0)
  unfolding due_of due_by
  due_link r u =
      fill_at 198 (due_row b.processes b.conditionrow b.from missed b.remote b.decider (active_by b missed)) b.rows r
      (omega (arith, h.row_count, g.few_processes, g.few_edges, g.few_conditions)) (omega (arith, h.row_count))
      ∙ (λ j.
      due_row (h.processes_count j) ((h.first_condition_row ∙ (λ i. h.processes_count i + h.edges_count i)) j) b.from missed b.remote b.decider (active_by b missed) r)
      ∙ kind_at r (kind p r u)
