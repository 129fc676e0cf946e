-- The arrays of a plan's plan index fit each other and the bus, so that planning can go by them; and where planning of
-- a combination stands at a clock, it can begin.
-- Assumes nothing.
use Rattle.std.specs.Prelude.{if◌then◌else◌}
use mathlib.Core.Path.{◌≡◌, refl, sym, ap, ◌∙◌, subst}
use mathlib.Core.Logic.{◌⊎◌, inl, inr}
use mathlib.Core.Bool.{Bool, true, false, not, ◌&&◌}
use mathlib.Core.List.{List, Memᴰ as In}
use Prim.Native.Nat.{ℕ, zero, suc, ◌+◌, ◌-◌, ◌%◌, ◌^◌, ◌≤◌, ◌<◌}
use lib.Pow.{pow_pos}
use native.Mathlib.Omega.{arith}
use lib.Dec.{eqb, leb, ltb}
use lib.ListN.{length, get_or, get_or-eq_default}
use borrow.Author.Tests.{eqb-true, eq-eqb, ne_eqb, ltb-true, ltb-false, not-true}
use Rattle.lists.specs.Lists.{repeated}
use Rattle.lists.proofs.Tests.{two, both, clash}
use Rattle.lists.proofs.Members.{keep_in}
use Rattle.lists.proofs.Different.{keep_different}
use Rattle.model.specs.Plan.{Lines, Slot, Edge, When, always, on, process, edge, local, unit}
use Rattle.model.specs.Bus.{slot_ticks, round, offset, slot_of, first_beginning, begins}
use Rattle.model.specs.Planning.{queue}
use Rattle.model.specs.Refusals.{nothing, plan_refusal}
use Rattle.laws.proofs.Good.{Good, good}
use Rattle.laws.proofs.Slots.{slot_own, beginning_within, one_slot_a_tick, slots_apart}
use Rattle.laws.proofs.Steps.{queue_in, queue_once}
use Rattle.laws.proofs.Active.{into_in}
use Rattle.log_queries.specs.Reading.{part, edges_into}
use Rattle.log_queries.specs.Holding.{known_row, met_in, Holds}
use Rattle.bus_timetable.specs.Bus.{beginning_at}
use Rattle.planner_dispatch.proofs.NodeOrders.{dispatch_member, dispatch_unit}
use Rattle.plan_index.specs.declared.PlanIndex.{PlanIndex}
use Rattle.plan_layout.specs.Unmet.{unmet_by}
use Rattle.plan_layout.specs.Indexed.{Indexed}
use Rattle.plan_layout.proofs.Bounds.{bounded}
use Rattle.planner_combination.specs.Events.{begins_by, from_clock, Fits}
use Rattle.planner_combination.specs.Kept.{Begins}
use Rattle.table_entries.specs.Logs.{numbered}
use Rattle.planner_combinations.specs.Combinations.{Ready}

abbrev no_edge : Edge
no_edge = record { from = 0; to = 0; bytes = 0; when = always }

module _ (p : Lines) (passes : plan_refusal p ≡ nothing) (b : PlanIndex) (o : Indexed p b) where
  abbrev g : Good p
  g = good p passes

  in_slots : (n : ℕ) → n < b.slots → n < length p.slots
  in_slots n l = omega (arith, o.slots_count)

  in_processes : (i : ℕ) → i < b.processes → i < length p.processes
  in_processes i l = omega (arith, o.processes_count)

  conditionrow_count : b.conditionrow ≡ length p.processes + length p.edges
  conditionrow_count = o.first_condition_row ∙ (λ j. o.processes_count j + o.edges_count j)

  -- what is the same in every combination
  h : Holds p (numbered p 0) b.from b.knownby (unmet_by b.kind b.condition b.edges 0) b.remote b.asany b.intofirst b.into
  h = o.holds 0 (pow_pos (length p.conditions))

  -- an edge between nodes is one of the plan's
  remote_edge : (e : ℕ) → 1 ≤ get_or b.remote e 0 → e < length p.edges
  remote_edge e l = at (two (ltb e (length p.edges)))
    where
      at : (ltb e (length p.edges) ≡ true) ⊎ (ltb e (length p.edges) ≡ false) → e < length p.edges
      at (inl t) = ltb-true _ _ t
      at (inr t) =
          let q : edge p e ≡ no_edge = get_or-eq_default p.edges no_edge (ltb-false _ _ t) in
          let s : local p e ≡ true = ap (λ (d : Edge). eqb (process p d.from).node (process p d.to).node) q ∙ eq-eqb (process p 0).node (process p 0).node refl in
          let z : get_or b.remote e 0 ≡ 0 = eqb-true _ _ (h.locals e ∙ s) in
          absurd (omega arith)

  -- the row that makes the `when` of an edge known
  knownby_on : (e : ℕ) (v : Bool) (k : ℕ) → (edge p e).when ≡ on v k → (k : ℕ) × (k < b.conditions) × (get_or b.knownby e 0 ≡ b.conditionrow + k)
  knownby_on e v k q = (k, at (two (ltb e (length p.edges))), h.known_rows e ∙ ap (known_row p (edge p e).from) q ∙ ap (λ (x : ℕ). x + k) (sym conditionrow_count))
    where
      no_when : always ≡ on v k → ⊥
      no_when z = let x : ◌≡◌ {A = ℕ} 0 1 = cc in omega arith

      at : (ltb e (length p.edges) ≡ true) ⊎ (ltb e (length p.edges) ≡ false) → k < b.conditions
      at (inl t) = omega (arith, o.conditions_count, (g.decided e (ltb-true _ _ t) v k q).0)
      at (inr t) = absurd (no_when (sym (ap (λ (d : Edge). d.when) (get_or-eq_default p.edges no_edge (ltb-false _ _ t))) ∙ q))

  knownby_when : (e : ℕ) (w : When) → (edge p e).when ≡ w → (get_or b.knownby e 0 ≡ get_or b.from e 0) ⊎ ((k : ℕ) × (k < b.conditions) × (get_or b.knownby e 0 ≡ b.conditionrow + k))
  knownby_when e always q = inl (h.known_rows e ∙ ap (known_row p (edge p e).from) q ∙ sym (h.senders e))
  knownby_when e (on v k) q = inr (knownby_on e v k q)

  -- the bus
  begins_same : (t n : ℕ) → n < length p.slots → begins_by b.round b.offset t n ≡ begins p n t
  unfolding begins_by begins beginning_at first_beginning
  begins_same t n l = λ j. eqb (beginning_at (o.rounds j) (o.offsets n l j) t) t

  begins_of : (t n : ℕ) (s : Slot) → s.node ≡ n → n < length p.slots → begins_by b.round b.offset t n ≡ true → begins p s.node t ≡ true
  begins_of t n s q l e = ap (λ (k : ℕ). begins p k t) q ∙ sym (begins_same t n l) ∙ e

  offset_in : (n : ℕ) → n < length p.slots → offset p n < round p
  unfolding first_beginning
  offset_in n l =
      let s = g.slot_there n l in
      at (leb (0 % round p) (offset p n)) (subst (λ (k : ℕ). first_beginning p k 0 < 0 + round p) s.2 (beginning_within p g s.0 s.1 0).1)
    where
      at : (c : Bool) → (0 - 0 % round p) + (if c then offset p n else round p + offset p n) < 0 + round p → offset p n < round p
      at true z = omega arith
      at false z = omega arith

  last_of : (n : ℕ) (l : n < length p.slots) (s : Slot) → In s p.slots → s.node ≡ n → get_or b.lasts n 0 ≡ slot_ticks p s
  last_of n l s m q = o.lasts_of n l ∙ ap (slot_ticks p) (ap (slot_of p) (sym q) ∙ slot_own p g s m)

  one_node : (n k t : ℕ) → n < b.slots → k < b.slots → begins_by b.round b.offset t n ≡ true → begins_by b.round b.offset t k ≡ true → n ≡ k
  one_node n k t l m e f =
      let x = g.slot_there n (in_slots n l) in
      let y = g.slot_there k (in_slots k m) in
      let q = one_slot_a_tick p g x.0 y.0 x.1 y.1 t (begins_of t n x.0 x.2 (in_slots n l) e) (begins_of t k y.0 y.2 (in_slots k m) f) in
      sym x.2 ∙ ap (λ (s : Slot). s.node) q ∙ y.2

  apart : (n k t w : ℕ) → n < b.slots → k < b.slots → begins_by b.round b.offset t n ≡ true → begins_by b.round b.offset w k ≡ true → t < w → t + get_or b.lasts n 0 ≤ w
  apart n k t w l m e f z =
      let x = g.slot_there n (in_slots n l) in
      let y = g.slot_there k (in_slots k m) in
      let q = slots_apart p g x.0 y.0 x.1 y.1 t w (begins_of t n x.0 x.2 (in_slots n l) e) (begins_of w k y.0 y.2 (in_slots k m) f) z in
      omega (arith, q, last_of n (in_slots n l) x.0 x.1 x.2)

  -- the orders
  dispatch_node : (n j : ℕ) → n < b.slots → get_or b.dispatchfirst n 0 ≤ j → j < get_or b.dispatchfirst (n + 1) 0 → (get_or b.dispatch j 0 < b.processes) × (get_or b.node (get_or b.dispatch j 0) 0 ≡ n)
  unfolding unit
  dispatch_node n j l lo hi =
      let s = in_slots n l in
      (omega (arith, o.processes_count, dispatch_member p b.dispatchfirst b.dispatch o.dispatch_order_of n j s lo hi), o.nodes (get_or b.dispatch j 0) ∙ dispatch_unit p b.dispatchfirst b.dispatch o.dispatch_order_of n j s lo hi)

  sender : (e : ℕ) → e < length p.edges → get_or b.from e 0 < b.processes
  sender e l = omega (arith, o.processes_count, h.senders e, g.from_in e l)

  sender_node : (e : ℕ) → get_or b.node (get_or b.from e 0) 0 ≡ (process p (edge p e).from).node
  sender_node e = o.nodes (get_or b.from e 0) ∙ ap (λ (i : ℕ). (process p i).node) (h.senders e)

  queue_node : (n e : ℕ) → n < b.slots → In e (part b.queue (get_or b.queuefirst n 0) (get_or b.queuefirst (n + 1) 0)) →
      (get_or b.from e 0 < b.processes) × (get_or b.node (get_or b.from e 0) 0 ≡ n) × (1 ≤ get_or b.remote e 0)
  queue_node n e l m =
      let f : ℕ → Bool = λ e. eqb (process p (edge p e).from).node n && not (local p e) in
      let k = keep_in f (queue p) (subst (λ (xs : List ℕ). In e xs) (o.queue_of n (in_slots n l)) m) in
      let t = both (eqb (process p (edge p e).from).node n) (not (local p e)) k.1 in
      (sender e (queue_in p k.0), sender_node e ∙ eqb-true _ _ t.0, some (get_or b.remote e 0) (h.locals e ∙ not-true (local p e) t.1))
    where
      some : (r : ℕ) → eqb r 0 ≡ false → 1 ≤ r
      some zero z = clash (eq-eqb 0 0 refl) z
      some (suc r) z = omega arith

  into_node : (i e : ℕ) → i < b.processes → In e (edges_into b.intofirst b.into i) →
      (get_or b.from e 0 < b.processes) × (get_or b.remote e 0 ≡ 0 → get_or b.node (get_or b.from e 0) 0 ≡ get_or b.node i 0) × ((n : ℕ) → get_or b.remote e 0 ≡ suc n → get_or b.node i 0 ≡ n)
  unfolding unit
  into_node i e l m =
      let r = into_in p i (subst (λ (xs : List ℕ). In e xs) (h.leading i (in_processes i l)) m) in
      let own : (process p (edge p e).to).node ≡ get_or b.node i 0 = ap (λ (k : ℕ). (process p k).node) r.1 ∙ sym (o.nodes i) in (
        sender e r.0,
        λ q. sender_node e ∙ eqb-true _ _ (sym (h.locals e) ∙ eq-eqb (get_or b.remote e 0) 0 q) ∙ own,
        λ n q.
            let a = o.receivers e r.0 (sym (h.locals e) ∙ ne_eqb (get_or b.remote e 0) 0 (λ z. omega arith)) in
            sym own ∙ (let z : suc (process p (edge p e).to).node ≡ suc n = sym a ∙ q in omega arith),
      )

  -- the arrays of a plan index index each other, and their numbers are small
  pub fits : Fits b
  fits =
      record {
        bounded = bounded p b o;
        few_processes = o.few_processes;
        few_rows = omega (arith, o.first_condition_row, o.few_processes, o.few_edges);
        few_conditions = o.few_conditions;
        few_slots = o.few_slots;
        within_into = o.within;
        within_queue = record { senders = o.within.senders; known_rows = o.within.known_rows; edges = o.queue_members };
        into_firsts = o.into_firsts;
        dispatch_firsts = o.dispatch_firsts;
        queue_firsts = o.queue_firsts;
        dispatch_members = o.dispatch_members;
        deciders = o.decider_small;
        ticks_small = o.ticks_most;
        lasts_small = λ n l. o.lasts_most n (in_slots n l);
        round_one = o.round_one;
        reciprocals = o.reciprocals;
        decided = λ n l. o.decided n (in_slots n l);
        round_most = o.round_most;
        offset_most = λ n l. o.offset_most n (in_slots n l);
        offset_less = λ n l. omega (arith, o.offsets n (in_slots n l), o.rounds, offset_in n (in_slots n l));
        ticks_one = λ i l. o.ticks_one i (in_processes i l);
        lasts_one = λ n l. o.lasts_one n (in_slots n l);
        rows_before = omega (arith, o.first_condition_row);
        deciders_low = λ k l. let m : k < length p.conditions = omega (arith, o.conditions_count) in omega (arith, o.processes_count, o.deciders k m, g.decides k m);
        dispatch_own = dispatch_node;
        queue_own = queue_node;
        into_own = into_node;
        queue_rising = λ n l. o.queue_rising n (in_slots n l);
        queue_once = λ n l. ap repeated (o.queue_of n (in_slots n l)) ∙ keep_different (λ e. eqb (process p (edge p e).from).node n && not (local p e)) (queue p) (queue_once p);
        remote_most = o.remote_most;
        bytes_one = λ e l. omega (arith, o.sizes_of e, g.edge_one e (remote_edge e l));
        remote_row = λ e l. omega (arith, conditionrow_count, o.processes_count, remote_edge e l);
        known_rows_known = λ e. knownby_when e (edge p e).when refl;
        one_begins = one_node;
        slots_apart = apart;
      }

  -- planning of combination c can begin where it stands
  module _ (c : ℕ) (low : c < 2 ^ length p.conditions) (unmet : List ℕ) (unmet-is : unmet ≡ unmet_by b.kind b.condition b.edges c) where
    unmet_when : (e : ℕ) (w : When) → (edge p e).when ≡ w → (get_or unmet e 0 ≡ 0 → ⊥) → (k : ℕ) × (k < b.conditions) × (get_or b.knownby e 0 ≡ b.conditionrow + k)
    unmet_when e always q d =
        absurd (d (ap (λ (xs : List ℕ). get_or xs e 0) unmet-is ∙ eqb-true _ _ ((o.holds c low).met e ∙ ap (met_in (numbered p c)) q)))
    unmet_when e (on v k) q d = knownby_on e v k q

    pub begins_ready : (start : ℕ) (ends rows places counts noted : List ℕ) → Ready p c start ends rows places counts noted → Begins b unmet start ends rows
    unfolding from_clock unit
    begins_ready start ends rows places counts noted r =
        let s = r.at_tick in
        let q : start ≡ suc r.tick = s.clock in
        record {
          broadcastend_apart = λ e d. unmet_when e (edge p e).when refl d;
          ends_last = λ i l. last_at i (s.ends.last i (in_processes i l));
          items_past = λ i l. past_at i (s.items_sent i (omega (arith, o.processes_count)));
          busy_long = s.ends.long;
        }
      where
        last_at : (i : ℕ) → (get_or rows i 0 ≤ suc r.tick) ⊎ (get_or rows i 0 ≡ get_or ends (process p i).node 0) → (get_or rows i 0 ≤ start) ⊎ (get_or rows i 0 ≡ get_or ends (get_or b.node i 0) 0)
        last_at i (inl z) = inl (omega (arith, r.at_tick.clock))
        last_at i (inr z) = inr (z ∙ ap (λ (k : ℕ). get_or ends k 0) (sym (o.nodes i)))

        past_at : (i : ℕ) → (get_or rows i 0 ≤ suc r.tick) ⊎ (get_or rows i 0 ≡ 0) → get_or rows i 0 ≤ start
        past_at i (inl z) = omega (arith, r.at_tick.clock)
        past_at i (inr z) = omega arith
