-- The plan of one combination: where a run of events leads from a clock at which the arrays hold what is placed
-- before it is the combination's plan.
-- Assumes nothing.
use Rattle.std.specs.Prelude.{if◌then◌else◌}
use mathlib.Core.Path.{◌≡◌, refl, sym, ap, ◌∙◌, subst}
use mathlib.Core.Bool.{Bool, true, false}
use mathlib.Core.List.Memᴰ.{head as here}
use mathlib.Core.List.{List, [], ◌∷◌, map, Memᴰ as In}
use Prim.Native.Nat.{ℕ, zero, suc, ◌+◌, ◌-◌, ◌*◌, ◌^◌, ◌≤◌, ◌<◌}
use native.Mathlib.Omega.{arith}
use lib.Dec.{eqb}
use lib.ListN.{length, get_or, replicate, length-append, length-map}
use Rattle.lists.specs.Lists.{keep}
use Rattle.lists.proofs.Counts.{keep_short}
use Rattle.model.specs.Plan.{Lines, Slot}
use Rattle.model.specs.Bus.{condition_row, beginning}
use Rattle.model.specs.Planning.{View, passes_over, step, before, bound, planned}
use Rattle.model.specs.Refusals.{nothing, plan_refusal}
use Rattle.laws.proofs.Good.{Good, good}
use Rattle.laws.proofs.Slots.{beginning_in}
use Rattle.laws.proofs.Steps.{view_at}
use Rattle.laws.proofs.Events.{one_begins, passed_few}
use Rattle.log_queries.specs.Reading.{last_end_by}
use Rattle.log_queries.specs.Holding.{Holds, Held}
use Rattle.log_queries.proofs.Readings.{last_end_link}
use Rattle.plan_index.specs.declared.PlanIndex.{PlanIndex}
use Rattle.plan_layout.specs.Unmet.{unmet_by}
use Rattle.plan_layout.specs.Indexed.{Indexed}
use Rattle.planner_combination.specs.Events.{Moment, Ended, from_clock}
use Rattle.planner_combination.proofs.Planned.{first_at, Plans, leads_planned}
use Rattle.table_entries.specs.Logs.{numbered}
use Rattle.log_rows.specs.Rows.{Rows}
use Rattle.planner_nodes.specs.Nodes.{Nodes}
use Rattle.planner_prefix.specs.Stored.{added, RowsKept, NotesKept}
use Rattle.planner_prefix.proofs.Adding.{added_at, added_long}
use Rattle.planner_combinations.specs.Combinations.{log_of, passes_by, passes_of, Ready, Stored}
use Rattle.planner_prefix.proofs.Sources.{width}

-- where planning of a combination stands at a clock, the clock is 1 or more and there are eight counts
pub ready_start : (p : Lines) (c start : ℕ) (ends rows places counts noted : List ℕ) → Ready p c start ends rows places counts noted → 1 ≤ start
unfolding from_clock
ready_start p c start ends rows places counts noted r = omega (arith, r.at_tick.clock)

pub ready_long : (p : Lines) (c start : ℕ) (ends rows places counts noted : List ℕ) → Ready p c start ends rows places counts noted → length counts ≡ 8
unfolding from_clock
ready_long p c start ends rows places counts noted r = r.at_tick.passed_long

-- from the beginning
pub ready_first : (p : Lines) (c : ℕ) (ends rows places counts noted : List ℕ) → ends ≡ replicate 8 0 → rows ≡ replicate 198 0 → places ≡ replicate 198 0 → counts ≡ replicate 8 0 → noted ≡ replicate 48 0 →
    Ready p c 1 ends rows places counts noted
ready_first p c ends rows places counts noted ea ra pa ca na = record { tick = 0; at_tick = rw (ea, ra, pa, ca, na) (first_at p (numbered p c)) }

-- combination c is planned, in arrays of its own
pub record CombinationPlanned (p : Lines) (c : ℕ) (rows places counts noted : List ℕ) : Type 0 where
  pub held : Held p (log_of p c) rows places
  pub counted : (n : ℕ) → n < length p.slots → get_or counts n 0 ≡ passes_of p n c
  pub counts_long : length counts ≡ 8
  pub noting : (k : ℕ) → k < length p.conditions → 0 < get_or rows (condition_row p k) 0 → (m : ℕ) → m < length p.slots →
      get_or noted (k * 8 + m) 0 ≡ passes_by p m c (get_or rows (condition_row p k) 0 - 1)
  pub noted_long : length noted ≡ 48

short : {A : Type 0} (f : A → Bool) (xs : List A) → length (keep f xs) ≤ length xs
short f [] = omega arith
short f (x ∷ xs) = by (f x) (short f xs)
  where
    by : (b : Bool) → length (keep f xs) ≤ length xs → length (if b then (x ∷ keep f xs) else keep f xs) ≤ suc (length xs)
    by true r = omega arith
    by false r = omega arith

module _ (p : Lines) (passes : plan_refusal p ≡ nothing) where
  abbrev g : Good p
  g = good p passes

  -- a node passes an item over at most once for each row
  pub passes_few : (n c : ℕ) → c < 2 ^ length p.conditions → length (keep (eqb n) (planned p (numbered p c)).passed) ≤ 198
  unfolding planned
  passes_few n c l =
      omega (
        arith,
        keep_short (eqb n) (planned p (numbered p c)).passed,
        passed_few p (numbered p c) g (width p c l) (bound p),
        g.few_processes,
        g.few_edges,
        g.few_conditions,
      )

  -- at most one slot begins at a tick, so that at most one passes an item over
  begins_few : (t : ℕ) → length (beginning p t) ≤ 1
  begins_few t = at (beginning p t) refl
    where
      at : (bs : List Slot) → beginning p t ≡ bs → length (beginning p t) ≤ 1
      at [] q = omega (arith, ap (λ (xs : List Slot). length xs) q)
      at (b ∷ bs) q =
          let r = beginning_in p t (subst (λ (xs : List Slot). In b xs) (sym q) (here refl)) in
          omega (arith, ap (λ (xs : List Slot). length xs) (one_begins p g t b r.0 r.1))

  passed_late : (c : List Bool) (t : ℕ) → length (before p c t).passed ≤ t
  unfolding before step
  passed_late c zero = omega arith
  passed_late c (suc t) =
      let v : View = view_at p c t in
      omega (
        arith,
        passed_late c t,
        length-append (map (λ b. b.node) (keep (passes_over p v t) (beginning p t))) (before p c t).passed,
        length-map (keep (passes_over p v t) (beginning p t)) (λ b. b.node),
        short (passes_over p v t) (beginning p t),
        begins_few t,
      )

  pub passes_late : (n c t : ℕ) → length (keep (eqb n) (before p (numbered p c) t).passed) ≤ t
  passes_late n c t = omega (arith, keep_short (eqb n) (before p (numbered p c) t).passed, passed_late (numbered p c) t)

  module _ (b : PlanIndex) (o : Indexed p b) where
    -- where a run of events leads
    pub combination_of : (c : ℕ) → c < 2 ^ length p.conditions → (unmet : List ℕ) → unmet ≡ unmet_by b.kind b.condition b.edges c →
        (start : ℕ) (ends rows places counts noted : List ℕ) → Ready p c start ends rows places counts noted →
        (rows_after places-after counts_after noted-after : List ℕ) →
        Ended b unmet (from_clock start ends rows places counts noted) rows_after places-after counts_after noted-after →
        CombinationPlanned p c rows_after places-after counts_after noted-after
    combination_of c l unmet q start ends rows places counts noted r rows_after places-after counts_after noted-after e =
        let h : Holds p (numbered p c) b.from b.knownby unmet b.remote b.asany b.intofirst b.into =
        subst (λ (xs : List ℕ). Holds p (numbered p c) b.from b.knownby xs b.remote b.asany b.intofirst b.into) (sym q) (o.holds c l) in
        let f : Moment = e.end in
        let k : Plans p passes (numbered p c) (width p c l) b unmet o h f.comes f.place f.busy f.passed f.noted =
        leads_planned p passes (numbered p c) (width p c l) b unmet o h _ f e.leads r.tick r.at_tick in
        record {
          held = rw (e.rows, e.places) k.held;
          counted = λ n m. ap (λ (xs : List ℕ). get_or xs n 0) e.counts ∙ k.counts n m;
          counts_long = ap length e.counts ∙ k.passed_long;
          noting = rw (e.rows, e.notes_end) k.noting;
          noted_long = ap length e.notes_end ∙ k.noted_long;
        }

    -- its rows and notes stored and its counts added
    pub stored_of : (c latest : ℕ) (s : Rows) (ns : Nodes) → CombinationPlanned p c s.comes s.place ns.passed ns.noted → latest ≡ last_end_by s.comes b.processes →
        (comes place notes passed : List ℕ) → length passed ≡ 8 → {comes-after place_after notes_after passed-after : List ℕ} →
        RowsKept c s comes place comes-after place_after → NotesKept c ns notes notes_after → passed-after ≡ added ns.passed passed b.slots →
        Stored p c latest comes place notes passed comes-after place_after notes_after passed-after
    stored_of c latest s ns k e comes place notes passed long r m t =
        let n : b.slots ≡ length p.slots = o.slots_count in
        record {
          rows = s.comes;
          places = s.place;
          noted = ns.noted;
          counts = ns.passed;
          held = k.held;
          noting = k.noting;
          noted_long = k.noted_long;
          counts_own = k.counted;
          counts_long = k.counts_long;
          rows_stored = r.rows_stored;
          places_stored = r.places_stored;
          notes_stored = m;
          delay = e ∙ ap (last_end_by s.comes) o.processes_count ∙ last_end_link p (log_of p c) s.comes s.place k.held;
          counted = λ m l.
              ap (λ (xs : List ℕ). get_or xs m 0) t
              ∙ added_at ns.passed passed b.slots m (omega arith) (omega (arith, o.few_slots))
              ∙ ap (λ (x : ℕ). get_or passed m 0 + x) (k.counted m l);
          passed_long = ap length t ∙ added_long ns.passed passed b.slots ∙ long;
        }
