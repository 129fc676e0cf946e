-- What one event does: where the arrays hold planning before a tick, the next event has them hold planning before its
-- own tick.
-- Assumes nothing.
use Rattle.std.specs.Prelude.{if◌then◌else◌}
use Prim.Native.Nat.{ℕ, suc, ◌+◌, ◌-◌, ◌*◌, ◌≤◌, ◌<◌}
use mathlib.Core.Path.{◌≡◌, refl, sym, ap, ◌∙◌, subst}
use mathlib.Core.Logic.{◌⊎◌, inl, inr}
use mathlib.Core.Bool.{Bool, true, false, not, ◌&&◌}
use mathlib.Core.List.{List, [], ◌∷◌, ◌++◌, map, append-nil, append_assoc, Memᴰ as In}
use native.Mathlib.Omega.{arith}
use lib.Dec.{eqb, ltb}
use lib.ListN.{length, get_or, set, length-set}
use lib.Seq.{get_or-set_same, get_or-set_other}
use borrow.Author.Tests.{eqb-true, eqb-false, eq-eqb, ne_eqb, ltb-true, ltb-false, le-leb, lt-leb, not-false}
use Rattle.lists.specs.Lists.{keep, each, null}
use Rattle.lists.proofs.Tests.{two, clash}
use Rattle.lists.proofs.Keep.{map_upfrom}
use Rattle.model.specs.Plan.{Lines, Slot, unit}
use Rattle.model.specs.Activity.{Heard, heard, unheard, may_run}
use Rattle.model.specs.Bus.{slot_ticks, slot_of, begins, beginning, first_beginning, condition_row}
use Rattle.model.specs.Log.{Log, placed, known}
use Rattle.model.specs.Planning.{View, State, view, starts, pending, takes, passes_over, sends, step, before}
use Rattle.model.specs.Refusals.{plan_refusal, nothing}
use Rattle.laws.proofs.Good.{Good, good}
use Rattle.laws.proofs.Rows.{done_by}
use Rattle.laws.proofs.Slots.{slot_own, slot_ticks_one, beginning_within, beginning_first, beginning_in, slots_apart}
use Rattle.laws.proofs.Steps.{seen, log_at, view_at}
use Rattle.laws.proofs.UnchangedTicks.{idle_starts, stays}
use Rattle.laws.proofs.History.{over_then}
use Rattle.laws.proofs.Events.{none_begins, one_begins, takes_same, passes_same}
use Rattle.log_queries.specs.Reading.{within, came_by, placed_by}
use Rattle.log_queries.specs.Holding.{Holds, Held, Runs}
use Rattle.log_queries.proofs.Held.{held_logged}
use Rattle.log_queries.proofs.Running.{may_run_link}
use Rattle.bus_timetable.specs.Bus.{beginning_at}
use Rattle.planner_dispatch.specs.Starts.{Ends, starts_by}
use Rattle.planner_dispatch.proofs.Ends.{busy_later, busy_rows}
use Rattle.planner_dispatch.proofs.StartsOfModel.{After, starts_link}
use Rattle.planner_sends.specs.Packing.{Load, send_by, with_broadcast, pending_by}
use Rattle.planner_sends.specs.Items.{Items}
use Rattle.planner_sends.proofs.SlotOfModel.{pending_link, send_held, send_short, send_either, send_without_broadcast, send_processes}
use Rattle.plan_index.specs.declared.PlanIndex.{PlanIndex}
use Rattle.plan_layout.specs.Indexed.{Indexed}
use Rattle.planner_sends.specs.Clocks.{come_by}
use Rattle.planner_sends.proofs.Firsts.{First, found, missing, first_below}
use Rattle.log_queries.specs.Hearing.{heard_by}
use Rattle.planner_sends.specs.NextSends.{pending_in}
use Rattle.planner_packing.specs.Slot.{Bus, bus, filled, fill_by}
use Rattle.planner_combination.specs.Events.{last_event, Moment, begun_by, begins_by, slot_at_by, send_slot_by, next_slot, event_by, hears, begins_with, sends_slot, waiting, moves, next, notes_below, note_by, notes}
use Rattle.planner_combination.proofs.Ahead.{come_after, come_slotend, come_busy, event_come, event_slot, event_after}
use Rattle.planner_combination.proofs.Noting.{notes_long, notes_at}
use Rattle.planner_combination.specs.Standing.{SlotEnd, past, ahead, At}

-- a clock at which a slot ends stays one
slot_end_later : (p : Lines) (t u x : ℕ) → t ≤ u → SlotEnd p t x → SlotEnd p u x
slot_end_later p t u x l (past m) = past (omega arith)
slot_end_later p t u x l (ahead s o m e b q) = ahead s o m e (omega arith) q

plus_one : (x : ℕ) → x + 1 ≡ suc x
plus_one x = omega arith

-- a row that is over by one clock or after another is over by both or by neither
within_between : (x u w : ℕ) → u ≤ w → (x ≤ u) ⊎ (w < x) → within x w ≡ within x u
within_between x u w l (inl a) = ap (λ (b : Bool). not (eqb x 0) && b) (le-leb x w (omega arith) ∙ sym (le-leb x u a))
within_between x u w l (inr a) = ap (λ (b : Bool). not (eqb x 0) && b) (lt-leb x w a ∙ sym (lt-leb x u (omega arith)))

-- what is known, by the rows of the conditions
known_same : (p : Lines) (c : List Bool) (d f : ℕ → Bool) → ((k : ℕ) → k < length p.conditions → d (condition_row p k) ≡ f (condition_row p k)) → known p c d ≡ known p c f
unfolding known
known_same p c d f h = map_upfrom _ _ 0 (length p.conditions) (λ k lo hi. λ i. if h k (omega arith) i then heard (get_or c k false) else unheard)

module _ (p : Lines) (passes : plan_refusal p ≡ nothing) (c : List Bool) (count : length c ≡ length p.conditions) (b : PlanIndex) (unmet : List ℕ) (o : Indexed p b)
    (h : Holds p c b.from b.knownby unmet b.remote b.asany b.intofirst b.into) where
  abbrev g : Good p
  g = good p passes

  abbrev conditionrow# : ℕ
  conditionrow# = length p.processes + length p.edges

  conditionrow_count : b.conditionrow ≡ length p.processes + length p.edges
  conditionrow_count = o.first_condition_row ∙ (λ i. o.processes_count i + o.edges_count i)

  -- the slots, in the arrays and in the model
  begins_same : (t n : ℕ) → n < length p.slots → begins_by b.round b.offset t n ≡ begins p n t
  unfolding begins_by begins beginning_at first_beginning
  begins_same t n l = λ i. eqb (beginning_at (o.rounds i) (o.offsets n l i) t) t

  slot_same : (u n : ℕ) → n < length p.slots → next_slot b.round b.offset n u ≡ first_beginning p n u + 1
  unfolding next_slot beginning_at first_beginning
  slot_same u n l = λ i. beginning_at (o.rounds i) (o.offsets n l i) u + 1

  -- a slot that ends after a tick at which another begins has ended
  slot_over : (t x : ℕ) (s : Slot) → In s p.slots → begins p s.node t ≡ true → SlotEnd p t x → x ≤ suc t
  slot_over t x s m e (past l) = l
  slot_over t x s m e (ahead a k n f l q) = let z = slots_apart p g a s n m k t f e l in omega arith

  module _ (t : ℕ) (m : Moment) (s : At p c t m) where
    abbrev log : Log
    log = log_at p c t

    abbrev v : View
    v = view_at p c t

    -- which processes may run
    may : Runs (hears b unmet m) (may_run p (known p c (came_by m.comes (suc t))))
    unfolding hears heard_by
    may = at (eqb m.broadcastend m.u) refl
      where
        at : (q : Bool) → eqb m.broadcastend m.u ≡ q → Runs (hears b unmet m) (may_run p (known p c (came_by m.comes (suc t))))
        at true e =
            rw e
            (subst (λ (n : ℕ). Runs (Rattle.log_queries.specs.Reading.may_run_by b.from b.knownby unmet m.comes m.u b.asany b.intofirst b.into n) (may_run p (known p c (came_by m.comes (suc t))))) (sym o.processes_count)
            (subst (λ (u : ℕ). Runs (Rattle.log_queries.specs.Reading.may_run_by b.from b.knownby unmet m.comes u b.asany b.intofirst b.into (length p.processes)) (may_run p (known p c (came_by m.comes (suc t))))) (sym s.clock)
            (may_run_link p g c b.from b.knownby unmet b.remote b.asany b.intofirst b.into m.comes (suc t) h)))
        at false e = rw e (s.running e)

    abbrev e : Ends
    e = begins_with b unmet (hears b unmet m) m

    -- the starts
    started : After p v log t m.comes m.place e
    unfolding begins_with begun_by
    started = at (eqb m.come m.u) refl
      where
        from : ℕ → ℕ → ℕ → Ends
        from processes u slots =
            starts_by processes b.remote b.from b.knownby unmet (hears b unmet m) b.asany b.intofirst b.into u b.dispatchfirst b.dispatch b.ticks slots
            (record { busy = m.busy; comes = m.comes })

        at : (q : Bool) → eqb m.come m.u ≡ q → After p v log t m.comes m.place e
        at true q =
            rw q
            (subst (λ (n : ℕ). After p v log t m.comes m.place (from n m.u b.slots)) (sym o.processes_count)
            (subst (λ (u : ℕ). After p v log t m.comes m.place (from (length p.processes) u b.slots)) (sym s.clock)
            (subst (λ (n : ℕ). After p v log t m.comes m.place (from (length p.processes) (suc t) n)) (sym o.slots_count)
            (starts_link p g c b.from b.knownby unmet b.remote b.asany b.intofirst b.into b.dispatchfirst b.dispatch b.ticks (hears b unmet m) h o.dispatch_order_of o.lengths log m.comes m.place m.busy t s.held s.ends may))))
        at false q =
            rw q
            (record {
              held = subst (λ (l : Log). Held p (l ++ log) m.comes m.place) (sym (s.no_starts q)) s.held;
              ends = s.ends;
              came = refl;
              items = λ r l. refl;
            })

    abbrev first_log : Log
    first_log = starts p v t ++ log

    -- what a slot has taken after the starts
    record Took (sl : Slot) (end : ℕ) (l : Load) (broadcastend : Bool) : Type 0 where
      held : Held p (takes p v t sl ++ first_log) l.comes l.place
      short : l.short ≡ passes_over p v t sl
      rows : (r : ℕ) → (get_or l.comes r 0 ≡ get_or e.comes r 0) ⊎ ((get_or l.comes r 0 ≡ end) × (0 < l.used))
      pending_broadcasts : broadcastend ≡ false → (k : ℕ) → k < length p.conditions → get_or l.comes (condition_row p k) 0 ≡ get_or e.comes (condition_row p k) 0
      processes : (i : ℕ) → i < length p.processes → get_or l.comes i 0 ≡ get_or e.comes i 0

    -- after the slot that begins, if one does
    record SlotSent (r : Bus) : Type 0 where
      held : Held p (log_at p c (suc t)) r.comes r.place
      processes : (i : ℕ) → i < length p.processes → get_or r.comes i 0 ≡ get_or e.comes i 0
      over_stays : (q : ℕ) → get_or r.comes q 0 ≤ suc t → get_or r.comes q 0 ≡ get_or e.comes q 0
      items_sent : (q : ℕ) → length p.processes ≤ q → (get_or r.comes q 0 ≤ suc t) ⊎ (get_or r.comes q 0 ≡ r.slotend)
      slotend_end : (w : ℕ) → t < w → SlotEnd p w r.slotend
      broadcasts_heard : (k : ℕ) → k < length p.conditions → (get_or r.comes (condition_row p k) 0 ≤ suc t) ⊎ (get_or r.comes (condition_row p k) 0 ≡ r.broadcastend)
      broadcastend_end : (w : ℕ) → t < w → SlotEnd p w r.broadcastend
      counts : (n : ℕ) → n < length p.slots → get_or r.passed n 0 ≡ length (keep (eqb n) (before p c (suc t)).passed)
      passed_long : length r.passed ≡ 8

    -- the items' rows are as before the starts
    item_sent : (q : ℕ) → length p.processes ≤ q → (get_or e.comes q 0 ≤ suc t) ⊎ (get_or e.comes q 0 ≡ m.slotend)
    item_sent q l = subst (λ (x : ℕ). (x ≤ suc t) ⊎ (x ≡ m.slotend)) (sym (started.items q l)) (s.items_sent q l)

    item_broadcast : (k : ℕ) → k < length p.conditions → (get_or e.comes (condition_row p k) 0 ≤ suc t) ⊎ (get_or e.comes (condition_row p k) 0 ≡ m.broadcastend)
    item_broadcast k l = subst (λ (x : ℕ). (x ≤ suc t) ⊎ (x ≡ m.broadcastend)) (sym (started.items (condition_row p k) (omega arith))) (at (s.broadcasts_heard k l))
      where
        at : (get_or m.comes (condition_row p k) 0 ≤ t) ⊎ (get_or m.comes (condition_row p k) 0 ≡ m.broadcastend) →
            (get_or m.comes (condition_row p k) 0 ≤ suc t) ⊎ (get_or m.comes (condition_row p k) 0 ≡ m.broadcastend)
        at (inl x) = inl (omega arith)
        at (inr x) = inr x

    -- the state after the tick, by the slots that begin at it
    log_with : (bs : List Slot) → beginning p t ≡ bs → log_at p c (suc t) ≡ (each (takes p v t) bs ++ starts p v t) ++ log
    unfolding before step sends
    log_with bs q = ap (λ (bs : List Slot). (each (takes p v t) bs ++ starts p v t) ++ log) q

    passed_with : (bs : List Slot) → beginning p t ≡ bs → (before p c (suc t)).passed ≡ map (λ b. b.node) (keep (passes_over p v t) bs) ++ (before p c t).passed
    unfolding before step
    passed_with bs q = ap (λ (bs : List Slot). map (λ b. b.node) (keep (passes_over p v t) bs) ++ (before p c t).passed) q

    abbrev here : Bus
    here = bus m.slotend m.broadcastend e.comes m.place m.passed

    -- no slot begins
    idle : beginning p t ≡ [] → SlotSent here
    idle q =
        record {
          held = subst (λ (l : Log). Held p l e.comes m.place) (sym (log_with [] q)) started.held;
          processes = λ i l. refl;
          over_stays = λ q l. refl;
          items_sent = item_sent;
          slotend_end = λ w l. slot_end_later p t w m.slotend (omega arith) s.slotend_end;
          broadcasts_heard = item_broadcast;
          broadcastend_end = λ w l. slot_end_later p t w m.broadcastend (omega arith) s.broadcastend_end;
          counts = λ n l. s.counts n l ∙ ap (λ (ns : List ℕ). length (keep (eqb n) ns)) (sym (passed_with [] q));
          passed_long = s.passed_long;
        }

    -- a slot begins
    module _ (sl : Slot) (in_slots : In sl p.slots) (n : ℕ) (node : sl.node ≡ n) (begun : begins p sl.node t ≡ true) (end : ℕ) (lasts : end ≡ suc t + slot_ticks p sl) (l : Load) (broadcastend : Bool)
        (k : Took sl end l broadcastend) where
      only : beginning p t ≡ sl ∷ []
      only = one_begins p g t sl in_slots begun

      log_took : takes p v t sl ++ first_log ≡ log_at p c (suc t)
      log_took =
          sym (append_assoc (takes p v t sl) (starts p v t) log)
          ∙ ap (λ (x : Log). (x ++ starts p v t) ++ log) (sym (append-nil (takes p v t sl))) ∙ sym (log_with (sl ∷ []) only)

      slotend_past : m.slotend ≤ suc t
      slotend_past = slot_over t m.slotend sl in_slots begun s.slotend_end

      broadcast_past : m.broadcastend ≤ suc t
      broadcast_past = slot_over t m.broadcastend sl in_slots begun s.broadcastend_end

      new_end : (w : ℕ) → t < w → SlotEnd p w end
      new_end w x = ahead sl t in_slots begun x lasts

      stays_at : (q : ℕ) → get_or l.comes q 0 ≤ suc t → (get_or l.comes q 0 ≡ get_or e.comes q 0) ⊎ ((get_or l.comes q 0 ≡ end) × (0 < l.used)) → get_or l.comes q 0 ≡ get_or e.comes q 0
      stays_at q x (inl a) = a
      stays_at q x (inr a) = absurd (let y = slot_ticks_one p g sl in_slots in let z = a.0 in omega (arith, lasts))

      items_sent : (q : ℕ) → length p.processes ≤ q → (get_or l.comes q 0 ≤ suc t) ⊎ (get_or l.comes q 0 ≡ (if eqb l.used 0 then m.slotend else end))
      items_sent q x = at (k.rows q) (item_sent q x) (two (eqb l.used 0))
        where
          at : (get_or l.comes q 0 ≡ get_or e.comes q 0) ⊎ ((get_or l.comes q 0 ≡ end) × (0 < l.used)) → (get_or e.comes q 0 ≤ suc t) ⊎ (get_or e.comes q 0 ≡ m.slotend) →
              (eqb l.used 0 ≡ true) ⊎ (eqb l.used 0 ≡ false) → (get_or l.comes q 0 ≤ suc t) ⊎ (get_or l.comes q 0 ≡ (if eqb l.used 0 then m.slotend else end))
          at (inl a) (inl y) z = inl (omega arith)
          at (inl a) (inr y) (inl z) = inr (rw z (a ∙ y))
          at (inl a) (inr y) (inr z) = inl (let u = slotend_past in omega arith)
          at (inr a) y (inl z) = absurd (let u = eqb-true l.used 0 z in let w = a.1 in omega arith)
          at (inr a) y (inr z) = inr (rw z a.0)

      broadcasts_heard : (j : ℕ) → j < length p.conditions → (get_or l.comes (condition_row p j) 0 ≤ suc t) ⊎ (get_or l.comes (condition_row p j) 0 ≡ (if broadcastend then end else m.broadcastend))
      broadcasts_heard j x = at (two broadcastend) (k.rows (condition_row p j)) (item_broadcast j x)
        where
          at : (broadcastend ≡ true) ⊎ (broadcastend ≡ false) → (get_or l.comes (condition_row p j) 0 ≡ get_or e.comes (condition_row p j) 0) ⊎ ((get_or l.comes (condition_row p j) 0 ≡ end) × (0 < l.used)) →
              (get_or e.comes (condition_row p j) 0 ≤ suc t) ⊎ (get_or e.comes (condition_row p j) 0 ≡ m.broadcastend) →
              (get_or l.comes (condition_row p j) 0 ≤ suc t) ⊎ (get_or l.comes (condition_row p j) 0 ≡ (if broadcastend then end else m.broadcastend))
          at (inl z) (inl a) (inl y) = inl (omega arith)
          at (inl z) (inl a) (inr y) = inl (let u = broadcast_past in omega arith)
          at (inl z) (inr a) y = inr (rw z a.0)
          at (inr z) a (inl y) = inl (let u = k.pending_broadcasts z j x in omega arith)
          at (inr z) a (inr y) = inr (rw z (k.pending_broadcasts z j x ∙ y))

      one_more : (i : ℕ) → i < length p.slots → get_or (if l.short then set m.passed n (get_or m.passed n 0 + 1) else m.passed) i 0 ≡ length (keep (eqb i) (before p c (suc t)).passed)
      one_more i x = at l.short refl (two (eqb i n)) ∙ ap (λ (ns : List ℕ). length (keep (eqb i) ns)) (sym (passed_with (sl ∷ []) only))
        where
          rest : List ℕ
          rest = (before p c t).passed

          n_in : n < 8
          n_in = let z = g.slot_node_in sl in_slots in let y = g.few_slots in omega (arith, node)

          at : (q : Bool) → l.short ≡ q → (eqb i n ≡ true) ⊎ (eqb i n ≡ false) →
              get_or (if q then set m.passed n (get_or m.passed n 0 + 1) else m.passed) i 0 ≡ length (keep (eqb i) (map (λ b. b.node) (keep (passes_over p v t) (sl ∷ [])) ++ (before p c t).passed))
          at false q z = rw (sym k.short ∙ q) (s.counts i x)
          at true q (inl z) =
              let y : i ≡ n = eqb-true i n z in
              let w : eqb i sl.node ≡ true = eq-eqb i sl.node (y ∙ sym node) in
              rw (sym k.short ∙ q, w)
              (ap (λ (j : ℕ). get_or (set m.passed n (get_or m.passed n 0 + 1)) j 0) y
              ∙ get_or-set_same m.passed n (get_or m.passed n 0 + 1) 0 (omega (arith, s.passed_long, n_in))
              ∙ plus_one (get_or m.passed n 0) ∙ ap (λ (j : ℕ). suc (get_or m.passed j 0)) (sym y) ∙ ap suc (s.counts i x))
          at true q (inr z) =
              let y : eqb i sl.node ≡ false = ap (eqb i) node ∙ z in
              rw (sym k.short ∙ q, y)
              (get_or-set_other m.passed n i (get_or m.passed n 0 + 1) 0 (eqb-false i n z) ∙ s.counts i x)

      passed_eight : (q : Bool) → length (if q then set m.passed n (get_or m.passed n 0 + 1) else m.passed) ≡ 8
      passed_eight true = length-set m.passed n (get_or m.passed n 0 + 1) ∙ s.passed_long
      passed_eight false = s.passed_long

      slotend_after : (q : Bool) (w : ℕ) → t < w → SlotEnd p w (if q then m.slotend else end)
      slotend_after true w x = slot_end_later p t w m.slotend (omega arith) s.slotend_end
      slotend_after false w x = new_end w x

      broadcast_after : (q : Bool) (w : ℕ) → t < w → SlotEnd p w (if q then end else m.broadcastend)
      broadcast_after true w x = new_end w x
      broadcast_after false w x = slot_end_later p t w m.broadcastend (omega arith) s.broadcastend_end

      taken : SlotSent (filled n end l broadcastend here)
      unfolding filled
      taken =
          record {
            held = subst (λ (x : Log). Held p x l.comes l.place) log_took k.held;
            processes = k.processes;
            over_stays = λ q x. stays_at q x (k.rows q);
            items_sent = items_sent;
            slotend_end = slotend_after (eqb l.used 0);
            broadcasts_heard = broadcasts_heard;
            broadcastend_end = broadcast_after broadcastend;
            counts = one_more;
            passed_long = passed_eight l.short;
          }

    abbrev tick_now : m.u - 1 ≡ t
    tick_now = omega (arith, s.clock)

    abbrev fill_here : ℕ → Bus
    fill_here n = fill_by b.processes b.conditionrow b.conditions b.decider b.node b.queuefirst b.queue b.from b.knownby unmet b.bytes b.lasts b.rooms n m.u here

    sends_slot_at : (n : ℕ) → slot_at_by b.round b.offset t b.slots ≡ n → sends_slot b unmet e.comes m ≡ (if eqb n b.slots then here else fill_here n)
    unfolding sends_slot send_slot_by
    sends_slot_at n q =
        ap (λ (n : ℕ). if eqb n b.slots then here else fill_here n) (ap (λ (x : ℕ). slot_at_by b.round b.offset x b.slots) tick_now ∙ q)

    items : (n : ℕ) → n < length p.slots → Items p n b.decider b.node b.bytes b.queue (get_or b.queuefirst n 0) (get_or b.queuefirst (n + 1) 0)
    items n l = record { decided = o.deciders; node_of = o.nodes; bytes_of = o.sizes_of; queued = o.queue_of n l }

    -- a slot goes by what was there before the starts
    over_first : done_by p first_log t ≡ done_by p log t
    over_first =
        (held_logged p first_log e.comes m.place started.held).over_by t ∙ started.came ∙ sym ((held_logged p log m.comes m.place s.held).over_by t)

    placed_first : (r : ℕ) → length p.processes ≤ r → placed first_log r ≡ placed log r
    unfolding placed_by
    placed_first r l =
        ap (λ (f : ℕ → Bool). f r) (held_logged p first_log e.comes m.place started.held).put_by
        ∙ ap (λ (x : ℕ). not (eqb x 0)) (started.items r l)
        ∙ sym (ap (λ (f : ℕ → Bool). f r) (held_logged p log m.comes m.place s.held).put_by)

    takes_first : (sl : Slot) → takes p (view p c first_log t) t sl ≡ takes p v t sl
    unfolding view
    takes_first sl =
        ap (λ (d : ℕ → Bool). takes p (seen p c d (placed first_log)) t sl) over_first ∙ takes_same p c (done_by p log t) (placed first_log) (placed log) placed_first t sl

    passes_first : (sl : Slot) → passes_over p (view p c first_log t) t sl ≡ passes_over p v t sl
    unfolding view
    passes_first sl =
        ap (λ (d : ℕ → Bool). passes_over p (seen p c d (placed first_log)) t sl) over_first ∙ passes_same p c (done_by p log t) (placed first_log) (placed log) placed_first t sl

    -- what the slot of node n takes, by packing
    took : (sl : Slot) → In sl p.slots → (n : ℕ) → n < length p.slots → sl.node ≡ n → (end : ℕ) → end ≡ suc t + slot_ticks p sl →
        Took sl end
        (send_by b.processes b.conditionrow b.conditions b.decider b.node b.queue b.from b.knownby unmet b.bytes n (get_or b.queuefirst n 0) (get_or b.queuefirst (n + 1) 0) (get_or b.rooms n 0) m.u end e.comes m.place)
        (with_broadcast b.conditionrow b.conditions b.decider b.node n (get_or b.rooms n 0) m.u end e.comes m.place)
    took sl i n l q end z =
        subst (λ (d : Bool). Took sl end (send_by b.processes b.conditionrow b.conditions b.decider b.node b.queue b.from b.knownby unmet b.bytes n (get_or b.queuefirst n 0) (get_or b.queuefirst (n + 1) 0) (get_or b.rooms n 0) m.u end e.comes m.place) d)
        (sym (λ j. with_broadcast (conditionrow_count j) (o.conditions_count j) b.decider b.node n (get_or b.rooms n 0) (s.clock j) end e.comes m.place))
        (subst (λ (x : Load). Took sl end x (with_broadcast conditionrow# (length p.conditions) b.decider b.node n (get_or b.rooms n 0) (suc t) end e.comes m.place))
        (sym (λ j. send_by (o.processes_count j) (conditionrow_count j) (o.conditions_count j) b.decider b.node b.queue b.from b.knownby unmet b.bytes n (get_or b.queuefirst n 0) (get_or b.queuefirst (n + 1) 0) (get_or b.rooms n 0) (s.clock j) end e.comes m.place))
        (record {
          held =
              subst (λ (x : Log). Held p (x ++ first_log) sent.comes sent.place) (takes_first sl)
              (send_held p passes c b.from b.knownby unmet b.remote b.asany b.intofirst b.into h b.decider b.node b.bytes b.queue n first last (items n l) first_log e.comes m.place started.held t sl i q room end size z);
          short =
              send_short p passes c b.from b.knownby unmet b.remote b.asany b.intofirst b.into h b.decider b.node b.bytes b.queue n first last (items n l) first_log e.comes m.place started.held t sl i q room end size z
              ∙ passes_first sl;
          rows = send_either p passes c b.from b.knownby unmet b.remote b.asany b.intofirst b.into h b.decider b.node b.bytes b.queue n first last (items n l) first_log e.comes m.place started.held t sl i q room end size z;
          pending_broadcasts = λ y k x. send_without_broadcast p passes c b.from b.knownby unmet b.remote b.asany b.intofirst b.into h b.decider b.node b.bytes b.queue n first last (items n l) first_log e.comes m.place started.held t sl i q room end size z y k;
          processes = send_processes p passes c b.from b.knownby unmet b.remote b.asany b.intofirst b.into h b.decider b.node b.bytes b.queue n first last (items n l) first_log e.comes m.place started.held t sl i q room end size z;
        }))
      where
        first : ℕ
        first = get_or b.queuefirst n 0

        last : ℕ
        last = get_or b.queuefirst (n + 1) 0

        room : ℕ
        room = get_or b.rooms n 0

        size : room ≡ sl.bytes
        size = o.rooms_of n l ∙ ap (λ (x : Slot). x.bytes) (ap (slot_of p) (sym q) ∙ slot_own p g sl i)

        sent : Load
        sent = send_by (length p.processes) conditionrow# (length p.conditions) b.decider b.node b.queue b.from b.knownby unmet b.bytes n first last room (suc t) end e.comes m.place

    sending_node : SlotSent (sends_slot b unmet e.comes m)
    unfolding slot_at_by fill_by
    sending_node = at (first_below b.slots (begins_by b.round b.offset t))
      where
        at : First b.slots (begins_by b.round b.offset t) → SlotSent (sends_slot b unmet e.comes m)
        at (missing f q) =
            subst SlotSent (sym (sends_slot_at b.slots q ∙ rw (eq-eqb b.slots b.slots refl)))
            (idle (none_begins p g t (λ n l. sym (begins_same t n l) ∙ f n (omega (arith, o.slots_count)))))
        at (found n l f q) =
            let w : n < length p.slots = omega (arith, o.slots_count) in
            let r = g.slot_there n w in
            let sl : Slot = r.0 in
            let own : slot_of p n ≡ sl = ap (slot_of p) (sym r.2) ∙ slot_own p g sl r.1 in
            let end : ℕ = m.u + get_or b.lasts n 0 in
            let ends : end ≡ suc t + slot_ticks p sl = (λ i. s.clock i + (o.lasts_of n w ∙ ap (slot_ticks p) own) i) in
            subst SlotSent (sym (sends_slot_at n q ∙ rw (ne_eqb n b.slots (λ x. absurd (omega arith)))))
            (taken sl r.1 n r.2 (ap (λ (n : ℕ). begins p n t) r.2 ∙ sym (begins_same t n w) ∙ f) end ends _ _ (took sl r.1 n w r.2 end ends))

    -- the next event
    abbrev after : Bus
    after = sends_slot b unmet e.comes m

    abbrev come : ℕ
    come = come_by after.slotend e.busy m.u b.slots

    abbrev event : ℕ
    event = event_by (waiting b unmet after.comes m.u) b.round b.offset m.u come b.slots

    -- a row is over by the clock, or not before the next row is over
    clear : (r : ℕ) → (get_or after.comes r 0 ≤ suc t) ⊎ (come ≤ get_or after.comes r 0)
    unfolding unit
    clear r = at (two (ltb r (length p.processes)))
      where
        of_process : r < length p.processes → (get_or e.comes r 0 ≤ suc t) ⊎ (get_or e.comes r 0 ≡ get_or e.busy (unit p r) 0) → (get_or after.comes r 0 ≤ suc t) ⊎ (come ≤ get_or after.comes r 0)
        of_process l (inl x) = inl (let z = sending_node.processes r l in omega arith)
        of_process l (inr x) = go (come_busy after.slotend e.busy m.u b.slots (unit p r) (in_slots l))
          where
            in_slots : r < length p.processes → unit p r < b.slots
            in_slots l = omega (arith, g.node_in r l, o.slots_count)

            go : (get_or e.busy (unit p r) 0 ≤ m.u) ⊎ (come ≤ get_or e.busy (unit p r) 0) → (get_or after.comes r 0 ≤ suc t) ⊎ (come ≤ get_or after.comes r 0)
            go (inl y) = inl (let z = sending_node.processes r l in omega (arith, s.clock))
            go (inr y) = inr (let z = sending_node.processes r l in omega arith)

        of_item : (get_or after.comes r 0 ≤ suc t) ⊎ (get_or after.comes r 0 ≡ after.slotend) → (get_or after.comes r 0 ≤ suc t) ⊎ (come ≤ get_or after.comes r 0)
        of_item (inl x) = inl x
        of_item (inr x) = go (come_slotend after.slotend e.busy m.u b.slots)
          where
            go : (after.slotend ≤ m.u) ⊎ (come ≤ after.slotend) → (get_or after.comes r 0 ≤ suc t) ⊎ (come ≤ get_or after.comes r 0)
            go (inl y) = inl (omega (arith, s.clock))
            go (inr y) = inr (omega arith)

        at : (ltb r (length p.processes) ≡ true) ⊎ (ltb r (length p.processes) ≡ false) → (get_or after.comes r 0 ≤ suc t) ⊎ (come ≤ get_or after.comes r 0)
        at (inl l) = of_process (ltb-true _ _ l) (started.ends.last r (ltb-true _ _ l))
        at (inr l) = of_item (sending_node.items_sent r (ltb-false _ _ l))

    abbrev later_log : Log
    later_log = log_at p c (suc t)

    over_later : (w : ℕ) → done_by p later_log w ≡ came_by after.comes (suc w)
    over_later w = (held_logged p later_log after.comes after.place sending_node.held).over_by w

    over_now : done_by p log t ≡ came_by m.comes (suc t)
    over_now = (held_logged p log m.comes m.place s.held).over_by t

    -- what is over by the clock is the same before and after the event
    came_same : came_by after.comes (suc t) ≡ came_by m.comes (suc t)
    came_same = sym (over_later t) ∙ over_then p c g count t (suc t) (omega arith) ∙ over_now

    -- and stays so until the next row is over
    came_until : (w : ℕ) → suc t ≤ w → w < come → came_by after.comes w ≡ came_by after.comes (suc t)
    unfolding came_by
    came_until w l x = λ i r. within_between (get_or after.comes r 0) (suc t) w l (at r (clear r)) i
      where
        at : (r : ℕ) → (get_or after.comes r 0 ≤ suc t) ⊎ (come ≤ get_or after.comes r 0) → (get_or after.comes r 0 ≤ suc t) ⊎ (w < get_or after.comes r 0)
        at r (inl y) = inl y
        at r (inr y) = inr (omega arith)

    over_until : (w : ℕ) → t ≤ w → suc w < come → done_by p later_log w ≡ done_by p log t
    over_until w l x = over_later w ∙ came_until (suc w) (omega arith) x ∙ came_same ∙ sym over_now

    -- a node has an item waiting
    waits_same : (n : ℕ) → n < length p.slots → waiting b unmet after.comes m.u n ≡ not (null (pending p (view p c later_log t) n))
    unfolding waiting pending_in
    waits_same n l =
        (λ j. pending_by (o.processes_count j) (conditionrow_count j) (o.conditions_count j) b.decider b.node b.queue b.from b.knownby unmet after.comes n (get_or b.queuefirst n 0) (get_or b.queuefirst (n + 1) 0) (s.clock j))
        ∙ pending_link p passes c b.from b.knownby unmet b.remote b.asany b.intofirst b.into h b.decider b.node b.bytes b.queue n (get_or b.queuefirst n 0) (get_or b.queuefirst (n + 1) 0) (items n l) later_log after.comes after.place sending_node.held t

    module _ (soon : m.u ≤ last_event) where
      on : m.u < event
      on =
          event_after (waiting b unmet after.comes m.u) b.round b.offset m.u come b.slots
          (come_after after.slotend e.busy m.u b.slots (omega arith))
          (λ k l.
          let w : k < length p.slots = omega (arith, o.slots_count) in
          let r = g.slot_there k w in
          let z : m.u ≤ first_beginning p k m.u = subst (λ (n : ℕ). m.u ≤ first_beginning p n m.u) r.2 (beginning_within p g r.0 r.1 m.u).0 in
          omega (arith, slot_same m.u k w))

      not_after : event ≤ come
      not_after = event_come (waiting b unmet after.comes m.u) b.round b.offset m.u come b.slots

      -- the tick of the next event
      abbrev t' : ℕ
      t' = event - 1

      abbrev gap : ℕ
      gap = t' - suc t

      ticks : gap + suc t ≡ t'
      ticks = omega (arith, on, s.clock)

      same : (k : ℕ) → k < gap → done_by p later_log (k + suc t) ≡ done_by p log t
      same k l = over_until (k + suc t) (omega arith) (omega (arith, not_after, on, s.clock))

      view_until : (w : ℕ) → t ≤ w → suc w < come → view p c later_log w ≡ view p c later_log t
      unfolding view
      view_until w l x = ap (λ (d : ℕ → Bool). seen p c d (placed later_log)) (over_until w l x ∙ sym (over_until t (omega arith) (omega arith)))

      none : (rs : List ℕ) → null rs ≡ true → rs ≡ []
      none [] q = refl
      none (r ∷ rs) q = clash q refl

      empty : (k : ℕ) → k < gap → (sl : Slot) → In sl (beginning p (k + suc t)) → pending p (view p c later_log (k + suc t)) sl.node ≡ []
      empty k l sl n =
          ap (λ (v : View). pending p v sl.node) (view_until (k + suc t) (omega arith) (omega (arith, not_after, on, s.clock)))
          ∙ at (two (waiting b unmet after.comes m.u sl.node))
        where
          begun : In sl p.slots × (begins p sl.node (k + suc t) ≡ true)
          begun = beginning_in p (k + suc t) n

          node_in : sl.node < length p.slots
          node_in = g.slot_node_in sl begun.0

          reached : first_beginning p sl.node m.u ≤ k + suc t
          reached = go (two (ltb (k + suc t) (first_beginning p sl.node m.u)))
            where
              go : (ltb (k + suc t) (first_beginning p sl.node m.u) ≡ true) ⊎ (ltb (k + suc t) (first_beginning p sl.node m.u) ≡ false) → first_beginning p sl.node m.u ≤ k + suc t
              go (inl x) = clash begun.1 (beginning_first p g sl begun.0 m.u (k + suc t) (omega (arith, s.clock)) (ltb-true _ _ x))
              go (inr x) = ltb-false _ _ x

          at : (waiting b unmet after.comes m.u sl.node ≡ true) ⊎ (waiting b unmet after.comes m.u sl.node ≡ false) → pending p (view p c later_log t) sl.node ≡ []
          at (inl x) =
              let y = event_slot (waiting b unmet after.comes m.u) b.round b.offset m.u come b.slots sl.node (omega (arith, o.slots_count, node_in)) x in
              absurd (omega (arith, slot_same m.u sl.node node_in, reached, on, s.clock))
          at (inr x) = none (pending p (view p c later_log t) sl.node) (not-false _ (sym (waits_same sl.node node_in) ∙ x))

      settled : before p c t' ≡ before p c (suc t)
      settled = ap (before p c) (sym ticks) ∙ stays p c t gap same empty

      abbrev run' : List ℕ
      run' = hears b unmet m

      running : eqb after.broadcastend event ≡ false → Runs run' (may_run p (known p c (came_by after.comes (suc t'))))
      unfolding came_by
      running x = subst (λ (k : List Heard). Runs run' (may_run p k)) (sym heard_same) may
        where
          broadcastend_apart : after.broadcastend ≡ event → ⊥
          broadcastend_apart = eqb-false after.broadcastend event x

          apart : (k : ℕ) → k < length p.conditions → (get_or after.comes (condition_row p k) 0 ≤ suc t) ⊎ (suc t' < get_or after.comes (condition_row p k) 0)
          apart k l = at (sending_node.broadcasts_heard k l) (clear (condition_row p k))
            where
              at : (get_or after.comes (condition_row p k) 0 ≤ suc t) ⊎ (get_or after.comes (condition_row p k) 0 ≡ after.broadcastend) →
                  (get_or after.comes (condition_row p k) 0 ≤ suc t) ⊎ (come ≤ get_or after.comes (condition_row p k) 0) →
                  (get_or after.comes (condition_row p k) 0 ≤ suc t) ⊎ (suc t' < get_or after.comes (condition_row p k) 0)
              at (inl y) z = inl y
              at (inr y) (inl z) = inl z
              at (inr y) (inr z) = inr (omega (arith, not_after, on, broadcastend_apart))

          heard_same : known p c (came_by after.comes (suc t')) ≡ known p c (came_by m.comes (suc t))
          heard_same =
              known_same p c (came_by after.comes (suc t')) (came_by m.comes (suc t))
              (λ k l. within_between (get_or after.comes (condition_row p k) 0) (suc t) (suc t') (omega (arith, on, s.clock)) (apart k l) ∙ ap (λ (d : ℕ → Bool). d (condition_row p k)) came_same)

      no_starts : eqb come event ≡ false → starts p (view_at p c t') t' ≡ []
      unfolding before
      no_starts x =
          ap (λ (z : State). starts p (view p c z.log t') t') settled
          ∙ idle_starts p c t t' (before p c t) (before p c (suc t)) refl (over_until t' (omega (arith, on, s.clock)) (let y = eqb-false come event x in omega (arith, not_after, on, y)))

      or_later : (x y : ℕ) → (x ≤ suc t) ⊎ (x ≡ y) → (x ≤ suc t') ⊎ (x ≡ y)
      or_later x y (inl l) = inl (omega (arith, on, s.clock))
      or_later x y (inr q) = inr q

      or_before : (x y : ℕ) → (x ≤ suc t) ⊎ (x ≡ y) → (x ≤ t') ⊎ (x ≡ y)
      or_before x y (inl l) = inl (omega (arith, on, s.clock))
      or_before x y (inr q) = inr q

      -- a value that is known before the next event was known by this one
      known_now : (k : ℕ) → get_or after.comes (condition_row p k) 0 ≤ t' → (get_or after.comes (condition_row p k) 0 ≤ suc t) × (get_or after.comes (condition_row p k) 0 ≡ get_or m.comes (condition_row p k) 0)
      known_now k x =
          let y : get_or after.comes (condition_row p k) 0 ≤ suc t = at (clear (condition_row p k)) in
          (y, sending_node.over_stays (condition_row p k) y ∙ started.items (condition_row p k) (omega arith))
        where
          at : (get_or after.comes (condition_row p k) 0 ≤ suc t) ⊎ (come ≤ get_or after.comes (condition_row p k) 0) → get_or after.comes (condition_row p k) 0 ≤ suc t
          at (inl y) = y
          at (inr y) = absurd (omega (arith, not_after, on, s.clock))

      abbrev Noted : List ℕ → ℕ → ℕ → ℕ → Type 0
      Noted noted x k n = get_or noted (k * 8 + n) 0 ≡ length (keep (eqb n) (before p c (x - 1)).passed)

      -- and its counts are noted
      noted_at : (k : ℕ) → k < length p.conditions → (x : ℕ) → x ≡ get_or m.comes (condition_row p k) 0 → 0 < x → x ≤ suc t → (n : ℕ) → n < length p.slots → Noted (notes b unmet m) x k n
      unfolding notes note_by
      noted_at k l x q z y n w = at (two (eqb m.broadcastend m.u)) (two (eqb x (suc t)))
        where
          row : get_or m.comes (b.conditionrow + k) 0 ≡ x
          row = ap (λ (r : ℕ). get_or m.comes (r + k) 0) conditionrow_count ∙ sym q

          row_test : eqb (get_or m.comes (b.conditionrow + k) 0) m.u ≡ eqb x (suc t)
          row_test = λ i. eqb (row i) (s.clock i)

          old : x ≤ t → Noted m.noted x k n
          old a = subst (λ (v : ℕ). Noted m.noted v k n) (sym q) (s.noting k l (omega (arith, q)) (omega (arith, q)) n w)

          below_now : get_or (notes_below m.comes m.u b.conditionrow m.passed b.conditions m.noted) (k * 8 + n) 0 ≡ (if eqb (get_or m.comes (b.conditionrow + k) 0) m.u then get_or m.passed n 0 else get_or m.noted (k * 8 + n) 0)
          below_now =
              notes_at m.comes m.u b.conditionrow m.passed m.noted s.passed_long s.noted_long b.conditions k n o.few_conditions (omega (arith, o.conditions_count)) (let v = g.few_slots in omega arith)

          at : (eqb m.broadcastend m.u ≡ true) ⊎ (eqb m.broadcastend m.u ≡ false) → (eqb x (suc t) ≡ true) ⊎ (eqb x (suc t) ≡ false) →
              Noted (if eqb m.broadcastend m.u then notes_below m.comes m.u b.conditionrow m.passed b.conditions m.noted else m.noted) x k n
          at (inl a) (inl d) =
              let v : x ≡ suc t = eqb-true x (suc t) d in
              let i : x - 1 ≡ t = omega arith in
              rw a (below_now ∙ rw (row_test ∙ d) (s.counts n w ∙ ap (λ (y : ℕ). length (keep (eqb n) (before p c y).passed)) (sym i)))
          at (inl a) (inr d) = rw a (below_now ∙ rw (row_test ∙ d) (old (let v = eqb-false x (suc t) d in omega (arith, v))))
          at (inr a) (inl d) = absurd (go (s.broadcasts_heard k l))
            where
              go : (get_or m.comes (condition_row p k) 0 ≤ t) ⊎ (get_or m.comes (condition_row p k) 0 ≡ m.broadcastend) → ⊥
              go (inl v) = absurd (let i = eqb-true x (suc t) d in omega (arith, q))
              go (inr v) = clash (eq-eqb m.broadcastend m.u (sym v ∙ sym q ∙ eqb-true x (suc t) d ∙ sym s.clock)) a
          at (inr a) (inr d) = rw a (old (let v = eqb-false x (suc t) d in omega (arith, v)))

      noted_length : length (notes b unmet m) ≡ 48
      unfolding notes note_by
      noted_length = at (eqb m.broadcastend m.u)
        where
          at : (q : Bool) → length (if q then notes_below m.comes m.u b.conditionrow m.passed b.conditions m.noted else m.noted) ≡ 48
          at true = notes_long m.comes m.u b.conditionrow m.passed m.noted s.passed_long s.noted_long b.conditions
          at false = s.noted_long

      pub at_next : At p c ((next b unmet m).u - 1) (next b unmet m)
      unfolding next moves
      at_next =
          record {
            clock = omega (arith, on);
            held = subst (λ (z : State). Held p z.log after.comes after.place) (sym settled) sending_node.held;
            ends = busy_later p after.comes e.busy (suc t) (suc t') (omega (arith, on, s.clock)) (busy_rows p e.comes after.comes e.busy (suc t) sending_node.processes started.ends);
            items_sent = λ r l. or_later (get_or after.comes r 0) after.slotend (sending_node.items_sent r l);
            slotend_end = sending_node.slotend_end t' (omega (arith, on, s.clock));
            broadcasts_heard = λ k l. or_before (get_or after.comes (condition_row p k) 0) after.broadcastend (sending_node.broadcasts_heard k l);
            broadcastend_end = sending_node.broadcastend_end t' (omega (arith, on, s.clock));
            running = running;
            no_starts = no_starts;
            counts = λ n l. sending_node.counts n l ∙ ap (λ (z : State). length (keep (eqb n) z.passed)) (sym settled);
            passed_long = sending_node.passed_long;
            noting = λ k l z x n w.
                let y = known_now k x in
                noted_at k l (get_or after.comes (condition_row p k) 0) y.1 z y.0 n w;
            noted_long = noted_length;
          }
