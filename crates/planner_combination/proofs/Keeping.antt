-- What is kept by node from event to event says the truth: at the start, and after each event; so that the event works
-- out what `next` says.
-- Assumes nothing.
use Rattle.std.specs.Prelude.{if◌then◌else◌}
use Prim.Native.Nat.{ℕ, zero, suc, ◌+◌, ◌-◌, ◌≤◌, ◌<◌}
use mathlib.Core.Path.{◌≡◌, refl, sym, ap, ◌∙◌, subst}
use mathlib.Core.Logic.{◌⊎◌, inl, inr}
use mathlib.Core.Bool.{Bool, true, false, ◌||◌}
use mathlib.Core.List.{List, Memᴰ as In}
use native.Mathlib.Omega.{arith}
use lib.Dec.{eqb}
use lib.ListN.{length, get_or, set, replicate, length-set, length-replicate}
use lib.Seq.{get_or-set_other}
use borrow.Author.Tests.{eqb-true, eqb-false, eq-eqb, ne_eqb}
use Rattle.lists.proofs.Tests.{two, clash, neither, or_left, or_right}
use Rattle.lists.proofs.Fill.{each_at, zeros_at}
use Rattle.model.specs.Listing.{bit}
use Rattle.log_queries.specs.Reading.{came_by, part, edges_into}
use Rattle.bus_timetable.specs.Bus.{beginning_at}
use Rattle.bus_timetable.proofs.Beginnings.{beginning_from}
use Rattle.planner_dispatch.specs.Starts.{Ends, starts_by}
use Rattle.planner_dispatch.specs.Unchanged.{Idle, Unchanged}
use Rattle.planner_dispatch.specs.ChangedNodes.{Soonest}
use Rattle.planner_dispatch.proofs.UnchangedNodes.{Alike, idle_stays, starts_idle}
use Rattle.planner_dispatch.proofs.Ends.{set_there}
use Rattle.planner_sends.proofs.Left.{placed_row}
use Rattle.plan_index.specs.declared.PlanIndex.{PlanIndex}
use Rattle.planner_sends.specs.Packing.{arrive_by}
use Rattle.planner_sends.specs.Clocks.{no_event, new_at, sending_node_by, sooner_by, come_by, ends_now, changes_at, event_now}
use Rattle.planner_sends.proofs.Firsts.{First, found, missing, first_below}
use Rattle.log_queries.specs.Hearing.{heard_by}
use Rattle.planner_sends.specs.NextSends.{next_send_from, update_below, update_by, Waiting, Roomy, UpdatedAll}
use Rattle.planner_packing.specs.Slot.{Bus, bus, fill_by}
use Rattle.planner_combination.specs.Events.{last_event, Moment, moment, begins_by, begun_by, next_slot, event_by, hears, begins_with, sends_slot, waiting, messages, notes, next, Fits}
use Rattle.planner_combination.specs.Kept.{Past, past, under_way, Kept, Queued, Begins}
use Rattle.planner_combination.specs.Ending.{Ending}
use Rattle.planner_combination.proofs.Ahead.{sooner_least, come_after, come_slotend, come_busy, come_most, come_new, event_come, event_slot, event_after}
use Rattle.planner_combination.proofs.Endings.{unchanged, ends_right, ending_next}
use Rattle.planner_combination.proofs.Beginnings.{beginning_same, past_later, past_ends}
use Rattle.planner_combination.proofs.Filling.{Filled, left, broadcast, message, fill_row, fill_broadcast, fill_slotend, fill_long}
use Rattle.planner_combination.proofs.Begun.{Started, as_before, starting, Begun, begun}
use Rattle.planner_combination.proofs.Pending.{came_same, came_grown, Same, pending_same, waiting_same}
use Rattle.planner_combination.proofs.Arrivals.{arrive_either, arrive_long, arrive_broadcast, arrive_reaches}
use Rattle.planner_combination.proofs.EventParts.{next_parts}
use Rattle.planner_combination.proofs.NextSends.{Updated, updated, event_same, Chosen, nobody, somebody, sends_slot_chosen}

-- a choice by whether a node is the number of slots
module _ {A : Type 0} (n slots : ℕ) {x : A} (y z : A) where
  no_slot : n ≡ slots → x ≡ (if eqb n slots then y else z) → x ≡ y
  no_slot q e = e ∙ ap (λ (b : Bool). if b then y else z) (eq-eqb n slots q)

  a_slot : n < slots → x ≡ (if eqb n slots then y else z) → x ≡ z
  a_slot l e = e ∙ ap (λ (b : Bool). if b then y else z) (ne_eqb n slots (λ q. omega arith))

-- by the clock u, or not before the clock w; and not at w
late : {x y u w : ℕ} → (x ≤ u) ⊎ (x ≡ y) → (y ≤ u) ⊎ (w ≤ y) → (x ≤ u) ⊎ (w ≤ x)
late (inl l) h = inl l
late (inr q) (inl h) = inl (omega arith)
late (inr q) (inr h) = inr (omega arith)

not_at : {x u w : ℕ} → (x ≡ w → ⊥) → (x ≤ u) ⊎ (w ≤ x) → (x ≤ u) ⊎ (w < x)
not_at d (inl l) = inl l
not_at d (inr l) = inr (omega (arith, d))

module _ (b : PlanIndex) (f : Fits b) (unmet : List ℕ) where
  abbrev edges_of : ℕ → List ℕ
  edges_of n = part b.queue (get_or b.queuefirst n 0) (get_or b.queuefirst (n + 1) 0)

  abbrev idle_by : List ℕ → ℕ → List ℕ → ℕ → Type 0
  idle_by run v comes n = Idle b.processes b.remote b.from b.knownby unmet run b.asany b.intofirst b.into v b.dispatchfirst b.dispatch comes n

  -- at the start
  pub kept_start : (u : ℕ) (run busy comes place passed noted lastarrival nextsend : List ℕ) → 1 ≤ u → length comes ≡ 198 → Begins b unmet u busy comes → lastarrival ≡ replicate 8 u → nextsend ≡ replicate 8 no_event →
      Kept b unmet (moment u u 0 u run busy comes place passed noted) lastarrival nextsend
  kept_start u run busy comes place passed noted lastarrival nextsend l long s sq dq =
      let at : (n : ℕ) → n < b.slots → get_or lastarrival n 0 ≡ u = λ n j. ap (λ (xs : List ℕ). get_or xs n 0) sq ∙ each_at 8 u n (omega (arith, f.few_slots)) in
      record {
        from_one = l;
        broadcastend_apart = s.broadcastend_apart;
        come_from = omega arith;
        end_over = λ n j q. refl;
        lastarrival_over = λ n j q. refl;
        slotend_past = past (omega arith);
        items = λ r j. inl (s.items_past r j);
        broadcast_with = inl (omega arith);
        broadcast_arrivals = λ n j. inr (at n j);
        lastarrival_with = λ n j. inl (omega (arith, at n j));
        pending_broadcasts = λ k j. inl (s.items_past (b.conditionrow + k) (omega (arith, f.rows_before)));
        sends = λ e n j q. inl (s.items_past (b.processes + e) (omega arith));
        ends_last = s.ends_last;
        idle = λ n j z d. absurd (d (at n j));
        next_sends = λ n j d e. absurd (d refl);
        next_sends_past = λ n j m. ap (λ (xs : List ℕ). get_or xs n 0) dq ∙ each_at 8 no_event n m;
        busy_long = s.busy_long;
        lastarrival_long = ap length sq ∙ length-replicate {A = ℕ} 8 u;
        nextsend_long = ap length dq ∙ length-replicate {A = ℕ} 8 no_event;
        comes_long = long;
      }

  -- no message is listed then, and every node is looked at as the first event begins
  pub queued_start : (u : ℕ) (run busy comes place passed noted wait waitend : List ℕ) → wait ≡ replicate 128 0 → waitend ≡ replicate 8 0 → Queued b unmet (moment u u 0 u run busy comes place passed noted) wait waitend
  queued_start u run busy comes place passed noted wait waitend p q =
      record {
        roomy =
            record {
              wait_long = ap length p ∙ length-replicate {A = ℕ} 128 0;
              wait_small = λ j. omega (arith, ap (λ (xs : List ℕ). get_or xs j 0) p, zeros_at 128 j);
              ends_long = ap length q ∙ length-replicate {A = ℕ} 8 0;
            };
        waits = λ n l d e. absurd (d refl);
      }

  -- one event
  module _ (m : Moment) (lastarrival nextsend : List ℕ) (k : Kept b unmet m lastarrival nextsend) where
    abbrev pend : ℕ → Bool
    pend = waiting b unmet m.comes m.u

    -- where a broadcast arrives, an item arrives at every node
    broadcast_now : (n : ℕ) → n < b.slots → m.broadcastend ≡ m.u → get_or lastarrival n 0 ≡ m.u
    broadcast_now n l q = at (k.broadcast_arrivals n l)
      where
        at : (m.broadcastend < m.u) ⊎ (get_or lastarrival n 0 ≡ m.broadcastend) → get_or lastarrival n 0 ≡ m.u
        at (inl z) = absurd (omega arith)
        at (inr z) = z ∙ q

    -- what may run is worked out again only where all nodes are reached
    run_stays : (run : List ℕ) → run ≡ hears b unmet m → (n : ℕ) → n < b.slots → (get_or lastarrival n 0 ≡ m.u → ⊥) → run ≡ m.run
    unfolding hears heard_by
    run_stays run q n l d = q ∙ rw (ne_eqb m.broadcastend m.u (λ e. d (broadcast_now n l e))) refl

    -- a node that is not in the mask of those for which something is new: no item arrives at it, and its last process
    -- does not end now
    module _ (new : ℕ) (New-is : m.come ≡ m.u → (n : ℕ) → n < 8 → bit new n ≡ new_at lastarrival m.busy m.u n) where
      old : (n : ℕ) → n < b.slots → bit new n ≡ false → (get_or lastarrival n 0 ≡ m.u → ⊥) × (get_or m.busy n 0 ≡ m.u → ⊥)
      unfolding new_at
      old n l e = (
        λ q. clash (New-is (k.lastarrival_over n l q) n (omega (arith, f.few_slots)) ∙ or_left _ _ (eq-eqb _ _ q)) e,
        λ q. clash (New-is (k.end_over n l q) n (omega (arith, f.few_slots)) ∙ or_right (eqb (get_or lastarrival n 0) m.u) _ (eq-eqb _ _ q)) e,
      )

      pub not_looked : (n : ℕ) → n < b.slots → bit new n ≡ false → (m.broadcastend ≡ m.u → ⊥) × (get_or m.busy n 0 ≡ m.u → ⊥)
      not_looked n l e = (λ q. (old n l e).0 (broadcast_now n l q), (old n l e).1)

    -- nodes for which nothing is new have no start
    module _ (run : List ℕ) (run_is : run ≡ hears b unmet m) where
      idle_still : (n : ℕ) → n < b.slots → get_or m.busy n 0 < m.u → (get_or lastarrival n 0 ≡ m.u → ⊥) → idle_by run m.u m.comes n
      idle_still n l free calm = subst (λ (r : List ℕ). idle_by r m.u m.comes n) (sym (run_stays run run_is n l calm)) (k.idle n l free calm)

      pub nothing_new : (new : ℕ) → (m.come ≡ m.u → (n : ℕ) → n < 8 → bit new n ≡ new_at lastarrival m.busy m.u n) →
          Unchanged b.processes b.slots b.remote b.from b.knownby unmet run b.asany b.intofirst b.into b.dispatchfirst b.dispatch b.ticks m.u new m.busy m.comes
      nothing_new new New-is =
          record {
            idle = λ n l e free. let d = old new New-is n l e in idle_still n l (omega (arith, free, d.1)) d.0;
            members = λ n j l lo hi. (f.dispatch_own n j l lo hi).0;
            own = λ n p j i l o lo hi lp hp q. sym (f.dispatch_own n j l lo hi).1 ∙ ap (λ (z : ℕ). get_or b.node z 0) q ∙ (f.dispatch_own p i o lp hp).1;
            ticks_one = f.ticks_one;
          }

    -- the messages that wait, once the nodes are looked at
    pub queued_now : (ends : ℕ) → Ending b.slots m.u m.busy ends → (look : ℕ) → look ≡ changes_at m.broadcastend ends m.u →
        (wait waitend wait₁ waitend₁ : List ℕ) → Queued b unmet m wait waitend → UpdatedAll m.broadcastend m.u look b.slots m.busy b.queuefirst (messages b unmet m.comes m.u) wait waitend wait₁ waitend₁ →
        Roomy wait₁ waitend₁ × ((i : ℕ) → i < b.slots → Waiting b.queuefirst wait₁ waitend₁ i (messages b unmet m.comes m.u i))
    queued_now ends ending look look_is wait waitend wait₁ waitend₁ h a = at (two (eqb look m.u))
      where
        at : (eqb look m.u ≡ true) ⊎ (eqb look m.u ≡ false) → Roomy wait₁ waitend₁ × ((i : ℕ) → i < b.slots → Waiting b.queuefirst wait₁ waitend₁ i (messages b unmet m.comes m.u i))
        at (inl e) = let z = a.all (eqb-true _ _ e) in (z.roomy, λ i l. by i l (two (eqb m.broadcastend m.u || eqb (get_or m.busy i 0) m.u)))
          where
            by : (i : ℕ) → i < b.slots → ((eqb m.broadcastend m.u || eqb (get_or m.busy i 0) m.u) ≡ true) ⊎ ((eqb m.broadcastend m.u || eqb (get_or m.busy i 0) m.u) ≡ false) →
                Waiting b.queuefirst wait₁ waitend₁ i (messages b unmet m.comes m.u i)
            by i l (inl c) = (a.all (eqb-true _ _ e)).looked i l c
            by i l (inr c) =
                let n = neither (eqb m.broadcastend m.u) (eqb (get_or m.busy i 0) m.u) c in
                (a.all (eqb-true _ _ e)).kept i l c (messages b unmet m.comes m.u i) (h.waits i l (eqb-false _ _ n.0) (eqb-false _ _ n.1))
        at (inr e) =
            let d = unchanged b.slots m.u m.busy ends ending m.broadcastend (λ q. eqb-false _ _ e (look_is ∙ q)) in
            let q = a.none (eqb-false _ _ e) in (
              subst (λ (xs : List ℕ). Roomy xs waitend₁) (sym q.0) (subst (Roomy wait) (sym q.1) h.roomy),
              λ i l.
                  subst (λ (xs : List ℕ). Waiting b.queuefirst xs waitend₁ i (messages b unmet m.comes m.u i)) (sym q.0)
                  (subst (λ (xs : List ℕ). Waiting b.queuefirst wait xs i (messages b unmet m.comes m.u i)) (sym q.1)
                  (h.waits i l d.0 (d.1 i l))),
            )

    -- what is looked at as the event begins
    module _ (new : ℕ) (New-is : m.come ≡ m.u → (n : ℕ) → n < 8 → bit new n ≡ new_at lastarrival m.busy m.u n) (ends : ℕ) (ending : Ending b.slots m.u m.busy ends) (look : ℕ) (look_is : look ≡ changes_at m.broadcastend ends m.u)
        (nextsend₁ : List ℕ) (update_is : nextsend₁ ≡ update_by m.broadcastend m.u (waiting b unmet m.comes m.u) m.busy b.round b.offset look b.slots nextsend) where
      abbrev next_now : ℕ → ℕ
      next_now i = next_send_from b.round (get_or b.offset i 0) (m.u - 1) (pend i)

      record Looked (s : List ℕ) : Type 0 where
        right : (i : ℕ) → i < b.slots → get_or s i 0 ≡ next_now i
        beyond : (i : ℕ) → b.slots ≤ i → get_or s i 0 ≡ get_or nextsend i 0
        eight : length s ≡ 8

      looked : Looked nextsend₁
      unfolding update_by
      looked = subst Looked (sym update_is) (at (two (eqb look m.u)))
        where
          a : Updated m.broadcastend m.u pend m.busy b.round b.offset nextsend k.nextsend_long b.slots (update_below m.broadcastend m.u pend m.busy b.round b.offset b.slots nextsend)
          a = updated m.broadcastend m.u pend m.busy b.round b.offset nextsend k.nextsend_long b.slots f.few_slots

          found : (i : ℕ) → i < b.slots → (c : Bool) → (eqb m.broadcastend m.u || eqb (get_or m.busy i 0) m.u) ≡ c → (if c then next_now i else get_or nextsend i 0) ≡ next_now i
          found i l true e = refl
          found i l false e =
              let n = neither (eqb m.broadcastend m.u) (eqb (get_or m.busy i 0) m.u) e in
              k.next_sends i l (eqb-false _ _ n.0) (eqb-false _ _ n.1)

          at : (eqb look m.u ≡ true) ⊎ (eqb look m.u ≡ false) →
              Looked (if eqb look m.u then update_below m.broadcastend m.u pend m.busy b.round b.offset b.slots nextsend else nextsend)
          at (inl e) =
              subst (λ (c : Bool). Looked (if c then update_below m.broadcastend m.u pend m.busy b.round b.offset b.slots nextsend else nextsend)) (sym e)
              (record {
                right = λ i l. a.below i l ∙ found i l (eqb m.broadcastend m.u || eqb (get_or m.busy i 0) m.u) refl;
                beyond = a.after;
                eight = a.eight;
              })
          at (inr e) =
              let d = unchanged b.slots m.u m.busy ends ending m.broadcastend (λ q. eqb-false _ _ e (look_is ∙ q)) in
              subst (λ (c : Bool). Looked (if c then update_below m.broadcastend m.u pend m.busy b.round b.offset b.slots nextsend else nextsend)) (sym e)
              (record {
                right = λ i l. k.next_sends i l d.0 (d.1 i l);
                beyond = λ i l. refl;
                eight = k.nextsend_long;
              })

      -- the node that sends
      module _ (low : m.u ≤ last_event) (n : ℕ) (sending-node-is : n ≡ sending_node_by nextsend₁ m.u b.slots) where
        nextsend_slot : (i : ℕ) → i < b.slots → get_or nextsend₁ i 0 ≡ m.u → begins_by b.round b.offset (m.u - 1) i ≡ true
        unfolding next_send_from begins_by
        nextsend_slot i l q = at (pend i) (sym (looked.right i l) ∙ q)
          where
            at : (c : Bool) → next_send_from b.round (get_or b.offset i 0) (m.u - 1) c ≡ m.u → eqb (beginning_at b.round (get_or b.offset i 0) (m.u - 1)) (m.u - 1) ≡ true
            at true e = eq-eqb (beginning_at b.round (get_or b.offset i 0) (m.u - 1)) (m.u - 1) (omega (arith, e, k.from_one))
            at false e = absurd (omega (arith, e, low))

        -- a slot that begins now, with an item pending, is due
        slot_nextsend : (i : ℕ) → i < b.slots → begins_by b.round b.offset (m.u - 1) i ≡ true → pend i ≡ true → get_or nextsend₁ i 0 ≡ m.u
        unfolding next_send_from begins_by
        slot_nextsend i l t e =
            let z : beginning_at b.round (get_or b.offset i 0) (m.u - 1) ≡ m.u - 1 = eqb-true _ _ t in
            looked.right i l ∙ ap (next_send_from b.round (get_or b.offset i 0) (m.u - 1)) e ∙ omega (arith, z, k.from_one)

        data One : Type 0 where
          none_nextsend : n ≡ b.slots → ((i : ℕ) → i < b.slots → get_or nextsend₁ i 0 ≡ m.u → ⊥) → One
          one_nextsend : n < b.slots → get_or nextsend₁ n 0 ≡ m.u → One

        one : One
        unfolding sending_node_by
        one = at (first_below b.slots (λ i. eqb (get_or nextsend₁ i 0) m.u))
          where
            at : First b.slots (λ i. eqb (get_or nextsend₁ i 0) m.u) → One
            at (missing h e) = none_nextsend (sending-node-is ∙ e) (λ i l. eqb-false _ _ (h i l))
            at (found i l t e) = let q : n ≡ i = sending-node-is ∙ e in one_nextsend (omega (arith, q)) (ap (λ (x : ℕ). get_or nextsend₁ x 0) q ∙ eqb-true _ _ t)

        pub node_low : n ≤ b.slots
        node_low = at one
          where
            at : One → n ≤ b.slots
            at (none_nextsend q h) = omega arith
            at (one_nextsend l q) = omega arith

        -- and its slot begins
        pub node_begins : n < b.slots → beginning_at b.round (get_or b.offset n 0) (m.u - 1) ≡ m.u - 1
        unfolding begins_by
        node_begins o = at one
          where
            at : One → beginning_at b.round (get_or b.offset n 0) (m.u - 1) ≡ m.u - 1
            at (none_nextsend q h) = absurd (omega (arith, q, o))
            at (one_nextsend l q) = eqb-true _ _ (nextsend_slot n l q)

        -- then each free node starts
        module _ (run : List ℕ) (run_is : run ≡ hears b unmet m) (busy rows : List ℕ) (busy_is : busy ≡ (begins_with b unmet run m).busy) (rows_is : rows ≡ (begins_with b unmet run m).comes) where
          abbrev at_first : Ends
          at_first = record { busy = m.busy; comes = m.comes }

          abbrev at_last : Ends
          at_last = record { busy = busy; comes = rows }

          abbrev all_started : Ends
          all_started = starts_by b.processes b.remote b.from b.knownby unmet run b.asany b.intofirst b.into m.u b.dispatchfirst b.dispatch b.ticks b.slots at_first

          begun_is : at_last ≡ (if eqb m.come m.u then all_started else at_first)
          unfolding begins_with begun_by
          begun_is = λ j. record { busy = busy_is j; comes = rows_is j }

          g : Begun b f unmet run m.u b.slots at_first at_last
          g = subst (Begun b f unmet run m.u b.slots at_first) (sym begun_is) (at (eqb m.come m.u))
            where
              at : (c : Bool) → Begun b f unmet run m.u b.slots at_first (if c then all_started else at_first)
              at true = begun b f unmet run m.u b.slots at_first (omega arith) k.busy_long
              at false = record { rows = λ r. as_before refl; ends = λ i. inl refl; later = λ i z. refl; long = k.busy_long; rows_long = refl }

          row_grown : (r : ℕ) → (get_or rows r 0 ≡ get_or m.comes r 0) ⊎ ((get_or m.comes r 0 ≡ 0) × (m.u < get_or rows r 0))
          row_grown r = at (g.rows r)
            where
              at : Started b f unmet run m.u b.slots at_first at_last r → (get_or rows r 0 ≡ get_or m.comes r 0) ⊎ ((get_or m.comes r 0 ≡ 0) × (m.u < get_or rows r 0))
              at (as_before q) = inl q
              at (starting z l o q h) = inr (z, h)

          item_row : (r : ℕ) → b.processes ≤ r → get_or rows r 0 ≡ get_or m.comes r 0
          item_row r l = at (g.rows r)
            where
              at : Started b f unmet run m.u b.slots at_first at_last r → get_or rows r 0 ≡ get_or m.comes r 0
              at (as_before q) = q
              at (starting z o w q h) = absurd (omega arith)

          came_rows : (r : ℕ) → came_by rows m.u r ≡ came_by m.comes m.u r
          came_rows r = came_grown m.comes rows m.u r (row_grown r)

          same_rows : (i : ℕ) → Same b.processes b.conditionrow b.conditions b.decider b.node b.queuefirst b.queue b.from b.knownby unmet i m.u m.u m.comes rows
          same_rows i =
              record {
                sent = λ e w. placed_row m.comes rows (b.processes + e) (item_row (b.processes + e) (omega arith));
                ended = λ e w. came_rows (get_or b.from e 0);
                known = λ e w. came_rows (get_or b.knownby e 0);
                broadcastend = λ c o q. placed_row m.comes rows (b.conditionrow + c) (item_row (b.conditionrow + c) (omega (arith, f.rows_before)));
                decided = λ c o q. came_rows (get_or b.decider c 0);
              }

          pend_rows : (i : ℕ) → waiting b unmet rows m.u i ≡ waiting b unmet m.comes m.u i
          unfolding waiting
          pend_rows i = pending_same b.processes b.conditionrow b.conditions b.decider b.node b.queuefirst b.queue b.from b.knownby unmet i m.u m.u m.comes rows (same_rows i)

          pub wait_rows : (i : ℕ) → messages b unmet rows m.u i ≡ messages b unmet m.comes m.u i
          unfolding messages
          wait_rows i = waiting_same b.processes b.conditionrow b.conditions b.decider b.node b.queuefirst b.queue b.from b.knownby unmet i m.u m.u m.comes rows (same_rows i)

          pub rows_room : b.conditionrow + b.conditions ≤ length rows
          rows_room = omega (arith, g.rows_long, k.comes_long, f.few_rows, f.few_conditions)

          chosen : Chosen b f unmet m rows n
          chosen = at one
            where
              by : (i : ℕ) → (pend i ≡ true) ⊎ (pend i ≡ false) → (pend i ≡ true → ⊥) → waiting b unmet rows m.u i ≡ false
              by i (inr e) d = pend_rows i ∙ e
              by i (inl e) d = absurd (d e)

              at : One → Chosen b f unmet m rows n
              at (one_nextsend l q) = somebody l (nextsend_slot n l q)
              at (none_nextsend q h) = nobody q (λ i l t. by i (two (pend i)) (λ e. h i l (slot_nextsend i l t e)))

          -- then the slot that begins takes its items
          abbrev end : ℕ
          end = m.u + get_or b.lasts n 0

          abbrev before : Bus
          before = bus m.slotend m.broadcastend rows m.place m.passed

          abbrev filled : Bus
          filled = fill_by b.processes b.conditionrow b.conditions b.decider b.node b.queuefirst b.queue b.from b.knownby unmet b.bytes b.lasts b.rooms n m.u before

          some_or_none : (n < b.slots) ⊎ (n ≡ b.slots)
          some_or_none = at one
            where
              at : One → (n < b.slots) ⊎ (n ≡ b.slots)
              at (none_nextsend q h) = inr q
              at (one_nextsend o t) = inl o

          begins_n : n < b.slots → begins_by b.round b.offset (m.u - 1) n ≡ true
          begins_n l = at one
            where
              at : One → begins_by b.round b.offset (m.u - 1) n ≡ true
              at (none_nextsend q h) = absurd (omega arith)
              at (one_nextsend o t) = nextsend_slot n o t

          soon : n < b.slots → m.u < end
          soon l = omega (arith, f.lasts_one n l)

          -- where a slot begins, nothing is under way
          landed : n < b.slots → m.slotend ≤ m.u
          landed l = past_ends b f m.u m.slotend n k.from_one l (begins_n l) k.slotend_past

          arrived : n < b.slots → {x : ℕ} → (x ≤ m.u) ⊎ (x ≡ m.slotend) → x ≤ m.u
          arrived l (inl z) = z
          arrived l (inr z) = omega (arith, z, landed l)

          pub rows_arrived : n < b.slots → (e : ℕ) → In e (edges_of n) → get_or rows (b.processes + e) 0 ≤ m.u
          rows_arrived l e w = omega (arith, item_row (b.processes + e) (omega arith), arrived l (k.items (b.processes + e) (omega arith)))

          pub broadcast_arrived : n < b.slots → m.broadcastend ≤ m.u
          broadcast_arrived l = arrived l k.broadcast_with

          module _ (slotend heard : ℕ) (comes place passed : List ℕ) (bus_is : bus slotend heard comes place passed ≡ (if eqb n b.slots then before else filled)) where
            pub sends_slot_is : bus slotend heard comes place passed ≡ sends_slot b unmet rows m
            sends_slot_is = bus_is ∙ sends_slot_chosen b f unmet m rows n chosen

            data Item (r : ℕ) : Type 0 where
              stayed : get_or comes r 0 ≡ get_or rows r 0 → Item r
              broadcastend : n < b.slots → (c : ℕ) → c < b.conditions → get_or b.node (get_or b.decider c 0) 0 ≡ n → r ≡ b.conditionrow + c → get_or rows r 0 ≡ 0 → get_or comes r 0 ≡ end → heard ≡ end → slotend ≡ end → Item r
              sent : n < b.slots → (e : ℕ) → In e (edges_of n) → r ≡ b.processes + e → get_or rows r 0 ≡ 0 → get_or comes r 0 ≡ end → slotend ≡ end → Item r

            item : (r : ℕ) → Item r
            item r = at some_or_none
              where
                by : n < b.slots →
                    Filled b.processes b.conditionrow b.conditions b.decider b.node b.queuefirst b.queue b.from b.knownby unmet b.bytes b.lasts b.rooms f.few_conditions n m.u before (bus slotend heard comes place passed) r → Item r
                by l (left q) = stayed q
                by l (broadcast c o w q z e h y) = broadcastend l c o w q z e h y
                by l (message e o q z h y) = sent l e o q z h y

                at : (n < b.slots) ⊎ (n ≡ b.slots) → Item r
                at (inr q) = stayed (ap (λ (s : Bus). get_or s.comes r 0) (no_slot n b.slots before filled q bus_is))
                at (inl l) =
                    by l
                    (subst
                    (λ (s : Bus). Filled b.processes b.conditionrow b.conditions b.decider b.node b.queuefirst b.queue b.from b.knownby unmet b.bytes b.lasts b.rooms f.few_conditions n m.u before s r)
                    (sym (a_slot n b.slots before filled l bus_is))
                    (fill_row b.processes b.conditionrow b.conditions b.decider b.node b.queuefirst b.queue b.from b.knownby unmet b.bytes b.lasts b.rooms f.few_conditions n m.u
                    (λ e w. f.bytes_one e (f.queue_own n e l w).2) before r))

            heard_either : (heard ≡ m.broadcastend) ⊎ ((n < b.slots) × (heard ≡ end) × (slotend ≡ end))
            heard_either = at some_or_none
              where
                by : n < b.slots → (filled.broadcastend ≡ m.broadcastend) ⊎ ((filled.broadcastend ≡ end) × (filled.slotend ≡ end)) → bus slotend heard comes place passed ≡ filled →
                    (heard ≡ m.broadcastend) ⊎ ((n < b.slots) × (heard ≡ end) × (slotend ≡ end))
                by l (inl q) e = inl (ap (λ (s : Bus). s.broadcastend) e ∙ q)
                by l (inr q) e = inr (l, ap (λ (s : Bus). s.broadcastend) e ∙ q.0, ap (λ (s : Bus). s.slotend) e ∙ q.1)

                at : (n < b.slots) ⊎ (n ≡ b.slots) → (heard ≡ m.broadcastend) ⊎ ((n < b.slots) × (heard ≡ end) × (slotend ≡ end))
                at (inr q) = inl (ap (λ (s : Bus). s.broadcastend) (no_slot n b.slots before filled q bus_is))
                at (inl l) =
                    by l
                    (fill_broadcast b.processes b.conditionrow b.conditions b.decider b.node b.queuefirst b.queue b.from b.knownby unmet b.bytes b.lasts b.rooms f.few_conditions n m.u before)
                    (a_slot n b.slots before filled l bus_is)

            slotend_either : (slotend ≡ m.slotend) ⊎ ((n < b.slots) × (slotend ≡ end))
            slotend_either = at some_or_none
              where
                by : n < b.slots → (filled.slotend ≡ m.slotend) ⊎ (filled.slotend ≡ end) → bus slotend heard comes place passed ≡ filled → (slotend ≡ m.slotend) ⊎ ((n < b.slots) × (slotend ≡ end))
                by l (inl q) e = inl (ap (λ (s : Bus). s.slotend) e ∙ q)
                by l (inr q) e = inr (l, ap (λ (s : Bus). s.slotend) e ∙ q)

                at : (n < b.slots) ⊎ (n ≡ b.slots) → (slotend ≡ m.slotend) ⊎ ((n < b.slots) × (slotend ≡ end))
                at (inr q) = inl (ap (λ (s : Bus). s.slotend) (no_slot n b.slots before filled q bus_is))
                at (inl l) =
                    by l
                    (fill_slotend b.processes b.conditionrow b.conditions b.decider b.node b.queuefirst b.queue b.from b.knownby unmet b.bytes b.lasts b.rooms f.few_conditions n m.u before)
                    (a_slot n b.slots before filled l bus_is)

            -- what was to arrive with the slot used last still is, or has arrived
            carried : {x : ℕ} → (x ≤ m.u) ⊎ (x ≡ m.slotend) → (x ≤ m.u) ⊎ (x ≡ slotend)
            carried h = at h slotend_either
              where
                at : {x : ℕ} → (x ≤ m.u) ⊎ (x ≡ m.slotend) → (slotend ≡ m.slotend) ⊎ ((n < b.slots) × (slotend ≡ end)) → (x ≤ m.u) ⊎ (x ≡ slotend)
                at (inl z) e = inl z
                at (inr z) (inl e) = inr (z ∙ sym e)
                at (inr z) (inr e) = inl (omega (arith, z, landed e.0))

            -- there are as many rows as before
            rows_all : length comes ≡ 198
            rows_all = at some_or_none
              where
                at : (n < b.slots) ⊎ (n ≡ b.slots) → length comes ≡ 198
                at (inr q) = ap (λ (s : Bus). length s.comes) (no_slot n b.slots before filled q bus_is) ∙ g.rows_long ∙ k.comes_long
                at (inl l) =
                    ap (λ (s : Bus). length s.comes) (a_slot n b.slots before filled l bus_is)
                    ∙ fill_long b.processes b.conditionrow b.conditions b.decider b.node b.queuefirst b.queue b.from b.knownby unmet b.bytes b.lasts b.rooms f.few_conditions n m.u (soon l) before
                    ∙ g.rows_long ∙ k.comes_long

            -- rows of processes stay, and what the slot takes arrives after the clock
            process_row : (i : ℕ) → i < b.processes → get_or comes i 0 ≡ get_or rows i 0
            process_row i l = at (item i)
              where
                at : Item i → get_or comes i 0 ≡ get_or rows i 0
                at (stayed q) = q
                at (broadcastend o c w d q z e h y) = absurd (omega (arith, f.rows_before))
                at (sent o e w q z h y) = absurd (omega arith)

            item_grown : (r : ℕ) → (get_or comes r 0 ≡ get_or rows r 0) ⊎ ((get_or rows r 0 ≡ 0) × (m.u < get_or comes r 0))
            item_grown r = at (item r)
              where
                at : Item r → (get_or comes r 0 ≡ get_or rows r 0) ⊎ ((get_or rows r 0 ≡ 0) × (m.u < get_or comes r 0))
                at (stayed q) = inl q
                at (broadcastend o c w d q z e h y) = inr (z, omega (arith, soon o))
                at (sent o e w q z h y) = inr (z, omega (arith, soon o))

            came_comes : (r : ℕ) → came_by comes m.u r ≡ came_by m.comes m.u r
            came_comes r = came_grown rows comes m.u r (item_grown r) ∙ came_rows r

            -- what is pending at another node stays
            message_stays : (i e : ℕ) → i < b.slots → (i ≡ n → ⊥) → In e (edges_of i) → Item (b.processes + e) → get_or comes (b.processes + e) 0 ≡ get_or m.comes (b.processes + e) 0
            message_stays i e l d w (stayed q) = q ∙ item_row (b.processes + e) (omega arith)
            message_stays i e l d w (broadcastend o c p r q z h s y) = absurd (omega (arith, f.remote_row e (f.queue_own i e l w).2))
            message_stays i e l d w (sent o x p q z h t) =
                let y : e ≡ x = omega arith in
                absurd (d (sym (f.queue_own i e l w).1 ∙ ap (λ (v : ℕ). get_or b.node (get_or b.from v 0) 0) y ∙ (f.queue_own n x o p).1))

            broadcast_stays : (i c : ℕ) → (i ≡ n → ⊥) → c < b.conditions → get_or b.node (get_or b.decider c 0) 0 ≡ i → Item (b.conditionrow + c) → get_or comes (b.conditionrow + c) 0 ≡ get_or m.comes (b.conditionrow + c) 0
            broadcast_stays i c d w v (stayed q) = q ∙ item_row (b.conditionrow + c) (omega (arith, f.rows_before))
            broadcast_stays i c d w v (broadcastend o x p r q z h s t) =
                let y : c ≡ x = omega arith in
                absurd (d (sym v ∙ ap (λ (v : ℕ). get_or b.node (get_or b.decider v 0) 0) y ∙ r))
            broadcast_stays i c d w v (sent o e p q z h t) = absurd (omega (arith, f.remote_row e (f.queue_own n e o p).2))

            same_comes : (i : ℕ) → i < b.slots → (i ≡ n → ⊥) → Same b.processes b.conditionrow b.conditions b.decider b.node b.queuefirst b.queue b.from b.knownby unmet i m.u m.u m.comes comes
            same_comes i l d =
                record {
                  sent = λ e w. placed_row m.comes comes (b.processes + e) (message_stays i e l d w (item (b.processes + e)));
                  ended = λ e w. came_comes (get_or b.from e 0);
                  known = λ e w. came_comes (get_or b.knownby e 0);
                  broadcastend = λ c o q. placed_row m.comes comes (b.conditionrow + c) (broadcast_stays i c d o q (item (b.conditionrow + c)));
                  decided = λ c o q. came_comes (get_or b.decider c 0);
                }

            pend_comes : (i : ℕ) → i < b.slots → (i ≡ n → ⊥) → waiting b unmet comes m.u i ≡ waiting b unmet m.comes m.u i
            unfolding waiting
            pend_comes i l d =
                pending_same b.processes b.conditionrow b.conditions b.decider b.node b.queuefirst b.queue b.from b.knownby unmet i m.u m.u m.comes comes (same_comes i l d)

            pub wait_comes : (i : ℕ) → i < b.slots → (i ≡ n → ⊥) → messages b unmet comes m.u i ≡ messages b unmet m.comes m.u i
            unfolding messages
            wait_comes i l d =
                waiting_same b.processes b.conditionrow b.conditions b.decider b.node b.queuefirst b.queue b.from b.knownby unmet i m.u m.u m.comes comes (same_comes i l d)

            -- and what is kept goes on from there
            module _ (lastarrival₁ nextsend₂ : List ℕ) (lastarrival_is : lastarrival₁ ≡ (if eqb n b.slots then lastarrival else arrive_by b.processes b.remote comes end b.slots heard (edges_of n) lastarrival))
                (nextsend_is : nextsend₂ ≡ (if eqb n b.slots then nextsend₁ else set nextsend₁ n (next_send_from b.round (get_or b.offset n 0) m.u (waiting b unmet comes m.u n)))) where
              abbrev arrive : List ℕ
              arrive = arrive_by b.processes b.remote comes end b.slots heard (edges_of n) lastarrival

              abbrev broadcast_of : ℕ → List ℕ → ℕ
              broadcast_of i xs = get_or xs i 0

              lastarrival_room : b.slots ≤ length lastarrival
              lastarrival_room = omega (arith, k.lastarrival_long, f.few_slots)

              -- a node is reached at the slot's end only if the slot is used
              used_by : n < b.slots → (heard ≡ end) ⊎ ((e : ℕ) × In e (edges_of n) × (get_or comes (b.processes + e) 0 ≡ end)) → slotend ≡ end
              used_by o (inl q) = at heard_either
                where
                  at : (heard ≡ m.broadcastend) ⊎ ((n < b.slots) × (heard ≡ end) × (slotend ≡ end)) → slotend ≡ end
                  at (inl z) = absurd (omega (arith, z, soon o, arrived o k.broadcast_with))
                  at (inr z) = z.2
              used_by o (inr e) = at (item (b.processes + e.0))
                where
                  at : Item (b.processes + e.0) → slotend ≡ end
                  at (stayed q) = absurd (omega (arith, q, e.2, item_row (b.processes + e.0) (omega arith), arrived o (k.items (b.processes + e.0) (omega arith)), soon o))
                  at (broadcastend l c w d q z h s y) = y
                  at (sent l x w q z h y) = y

              lastarrival_either : (i : ℕ) → i < b.slots → (get_or lastarrival₁ i 0 ≡ get_or lastarrival i 0) ⊎ ((n < b.slots) × (get_or lastarrival₁ i 0 ≡ end) × (slotend ≡ end))
              lastarrival_either i l = at some_or_none
                where
                  by : n < b.slots → (get_or arrive i 0 ≡ get_or lastarrival i 0) ⊎ ((get_or arrive i 0 ≡ end) × ((heard ≡ end) ⊎ ((e : ℕ) × In e (edges_of n) × (get_or comes (b.processes + e) 0 ≡ end)))) →
                      get_or lastarrival₁ i 0 ≡ get_or arrive i 0 → (get_or lastarrival₁ i 0 ≡ get_or lastarrival i 0) ⊎ ((n < b.slots) × (get_or lastarrival₁ i 0 ≡ end) × (slotend ≡ end))
                  by o (inl q) e = inl (e ∙ q)
                  by o (inr q) e = inr (o, e ∙ q.0, used_by o q.1)

                  at : (n < b.slots) ⊎ (n ≡ b.slots) → (get_or lastarrival₁ i 0 ≡ get_or lastarrival i 0) ⊎ ((n < b.slots) × (get_or lastarrival₁ i 0 ≡ end) × (slotend ≡ end))
                  at (inr q) = inl (ap (broadcast_of i) (no_slot n b.slots lastarrival arrive q lastarrival_is))
                  at (inl o) =
                      by o (arrive_either b.processes b.remote comes end b.slots heard (edges_of n) lastarrival i) (ap (broadcast_of i) (a_slot n b.slots lastarrival arrive o lastarrival_is))

              lastarrival_all : n < b.slots → heard ≡ end → (i : ℕ) → i < b.slots → get_or lastarrival₁ i 0 ≡ end
              lastarrival_all o q i l =
                  ap (broadcast_of i) (a_slot n b.slots lastarrival arrive o lastarrival_is) ∙ arrive_broadcast b.processes b.remote comes end b.slots heard (edges_of n) lastarrival q lastarrival_room i l

              lastarrival_reach : n < b.slots → (e i : ℕ) → In e (edges_of n) → get_or comes (b.processes + e) 0 ≡ end → get_or b.remote e 0 ≡ suc i → i < b.slots → get_or lastarrival₁ i 0 ≡ end
              lastarrival_reach o e i w q r l =
                  ap (broadcast_of i) (a_slot n b.slots lastarrival arrive o lastarrival_is)
                  ∙ arrive_reaches b.processes b.remote comes end b.slots heard (edges_of n) lastarrival lastarrival_room e i w q r l

              lastarrival_eight : length lastarrival₁ ≡ 8
              lastarrival_eight = at some_or_none
                where
                  at : (n < b.slots) ⊎ (n ≡ b.slots) → length lastarrival₁ ≡ 8
                  at (inr q) = ap length (no_slot n b.slots lastarrival arrive q lastarrival_is) ∙ k.lastarrival_long
                  at (inl o) = ap length (a_slot n b.slots lastarrival arrive o lastarrival_is) ∙ arrive_long b.processes b.remote comes end b.slots heard (edges_of n) lastarrival ∙ k.lastarrival_long

              -- what arrives: the slot used last, a broadcast, and at each node
              broadcast_carried : (heard ≤ m.u) ⊎ (heard ≡ slotend)
              broadcast_carried = at heard_either
                where
                  at : (heard ≡ m.broadcastend) ⊎ ((n < b.slots) × (heard ≡ end) × (slotend ≡ end)) → (heard ≤ m.u) ⊎ (heard ≡ slotend)
                  at (inl q) = carried (subst (λ (x : ℕ). (x ≤ m.u) ⊎ (x ≡ m.slotend)) (sym q) k.broadcast_with)
                  at (inr q) = inr (q.1 ∙ sym q.2)

              lastarrival_carried : (i : ℕ) → i < b.slots → (get_or lastarrival₁ i 0 ≤ m.u) ⊎ (get_or lastarrival₁ i 0 ≡ slotend)
              lastarrival_carried i l = at (lastarrival_either i l)
                where
                  at : (get_or lastarrival₁ i 0 ≡ get_or lastarrival i 0) ⊎ ((n < b.slots) × (get_or lastarrival₁ i 0 ≡ end) × (slotend ≡ end)) → (get_or lastarrival₁ i 0 ≤ m.u) ⊎ (get_or lastarrival₁ i 0 ≡ slotend)
                  at (inl q) = carried (subst (λ (x : ℕ). (x ≤ m.u) ⊎ (x ≡ m.slotend)) (sym q) (k.lastarrival_with i l))
                  at (inr q) = inr (q.1 ∙ sym q.2)

              items_carried : (r : ℕ) → b.processes ≤ r → Item r → (get_or comes r 0 ≤ m.u) ⊎ (get_or comes r 0 ≡ slotend)
              items_carried r l (stayed q) = carried (subst (λ (x : ℕ). (x ≤ m.u) ⊎ (x ≡ m.slotend)) (sym (q ∙ item_row r l)) (k.items r l))
              items_carried r l (broadcastend o c w d q z e h y) = inr (e ∙ sym y)
              items_carried r l (sent o e w q z h y) = inr (h ∙ sym y)

              broadcast_lastarrival : (i : ℕ) → i < b.slots → (heard ≤ m.u) ⊎ (get_or lastarrival₁ i 0 ≡ heard)
              broadcast_lastarrival i l = at heard_either (lastarrival_either i l) (k.broadcast_arrivals i l)
                where
                  at : (heard ≡ m.broadcastend) ⊎ ((n < b.slots) × (heard ≡ end) × (slotend ≡ end)) → (get_or lastarrival₁ i 0 ≡ get_or lastarrival i 0) ⊎ ((n < b.slots) × (get_or lastarrival₁ i 0 ≡ end) × (slotend ≡ end)) →
                      (m.broadcastend < m.u) ⊎ (get_or lastarrival i 0 ≡ m.broadcastend) → (heard ≤ m.u) ⊎ (get_or lastarrival₁ i 0 ≡ heard)
                  at (inl q) s (inl z) = inl (omega arith)
                  at (inl q) (inl s) (inr z) = inr (s ∙ z ∙ sym q)
                  at (inl q) (inr s) (inr z) = inl (omega (arith, q, arrived s.0 k.broadcast_with))
                  at (inr q) s z = inr (lastarrival_all q.0 q.1 i l ∙ sym q.1)

              broadcasts_broadcast : (c : ℕ) → c < b.conditions → Item (b.conditionrow + c) → (get_or comes (b.conditionrow + c) 0 ≤ m.u) ⊎ (get_or comes (b.conditionrow + c) 0 ≡ heard)
              broadcasts_broadcast c l (broadcastend o x w d q z e h y) = inr (e ∙ sym h)
              broadcasts_broadcast c l (sent o e w q z h y) = absurd (omega (arith, f.remote_row e (f.queue_own n e o w).2))
              broadcasts_broadcast c l (stayed q) = at (k.pending_broadcasts c l) heard_either
                where
                  p : get_or comes (b.conditionrow + c) 0 ≡ get_or m.comes (b.conditionrow + c) 0
                  p = q ∙ item_row (b.conditionrow + c) (omega (arith, f.rows_before))

                  at : (get_or m.comes (b.conditionrow + c) 0 ≤ m.u) ⊎ (get_or m.comes (b.conditionrow + c) 0 ≡ m.broadcastend) → (heard ≡ m.broadcastend) ⊎ ((n < b.slots) × (heard ≡ end) × (slotend ≡ end)) →
                      (get_or comes (b.conditionrow + c) 0 ≤ m.u) ⊎ (get_or comes (b.conditionrow + c) 0 ≡ heard)
                  at (inl z) e = inl (omega (arith, p))
                  at (inr z) (inl e) = inr (p ∙ z ∙ sym e)
                  at (inr z) (inr e) = inl (omega (arith, p, z, arrived e.0 k.broadcast_with))

              sends_arrive : (e i : ℕ) → i < b.slots → get_or b.remote e 0 ≡ suc i → Item (b.processes + e) → (get_or comes (b.processes + e) 0 ≤ m.u) ⊎ (get_or comes (b.processes + e) 0 ≡ get_or lastarrival₁ i 0)
              sends_arrive e i l r (broadcastend o x w d q z h s y) = absurd (omega (arith, f.remote_row e (omega arith)))
              sends_arrive e i l r (sent o x w q z h y) =
                  let v : x ≡ e = omega arith in
                  inr (h ∙ sym (lastarrival_reach o e i (subst (λ (v : ℕ). In v (edges_of n)) v w) h r l))
              sends_arrive e i l r (stayed q) = at (k.sends e i l r) (lastarrival_either i l)
                where
                  p : get_or comes (b.processes + e) 0 ≡ get_or m.comes (b.processes + e) 0
                  p = q ∙ item_row (b.processes + e) (omega arith)

                  at : (get_or m.comes (b.processes + e) 0 ≤ m.u) ⊎ (get_or m.comes (b.processes + e) 0 ≡ get_or lastarrival i 0) →
                      (get_or lastarrival₁ i 0 ≡ get_or lastarrival i 0) ⊎ ((n < b.slots) × (get_or lastarrival₁ i 0 ≡ end) × (slotend ≡ end)) →
                      (get_or comes (b.processes + e) 0 ≤ m.u) ⊎ (get_or comes (b.processes + e) 0 ≡ get_or lastarrival₁ i 0)
                  at (inl z) s = inl (omega (arith, p))
                  at (inr z) (inl s) = inr (p ∙ z ∙ sym s)
                  at (inr z) (inr s) = inl (omega (arith, p, z, arrived s.0 (k.lastarrival_with i l)))

              -- a process that starts or started ends by now or is the last of its node
              end_then : (i : ℕ) → i < b.processes → (get_or comes i 0 ≤ m.u) ⊎ (get_or comes i 0 ≡ get_or busy (get_or b.node i 0) 0)
              end_then i l = at (g.rows i) (k.ends_last i l) (g.ends (get_or b.node i 0))
                where
                  p : get_or comes i 0 ≡ get_or rows i 0
                  p = process_row i l

                  at : Started b f unmet run m.u b.slots at_first at_last i → (get_or m.comes i 0 ≤ m.u) ⊎ (get_or m.comes i 0 ≡ get_or m.busy (get_or b.node i 0) 0) →
                      (get_or busy (get_or b.node i 0) 0 ≡ get_or m.busy (get_or b.node i 0) 0) ⊎ ((get_or m.busy (get_or b.node i 0) 0 ≤ m.u) × (m.u < get_or busy (get_or b.node i 0) 0)) →
                      (get_or comes i 0 ≤ m.u) ⊎ (get_or comes i 0 ≡ get_or busy (get_or b.node i 0) 0)
                  at (starting z o w q h) s e = inr (p ∙ q)
                  at (as_before q) (inl s) e = inl (omega (arith, p, q))
                  at (as_before q) (inr s) (inl e) = inr (p ∙ q ∙ s ∙ sym e)
                  at (as_before q) (inr s) (inr e) = inl (omega (arith, p, q, e.0))

              -- when the slots take their items from here on
              nextsend_other : (i : ℕ) → (i ≡ n → ⊥) → get_or nextsend₂ i 0 ≡ get_or nextsend₁ i 0
              nextsend_other i d = at some_or_none
                where
                  x : ℕ
                  x = next_send_from b.round (get_or b.offset n 0) m.u (waiting b unmet comes m.u n)

                  at : (n < b.slots) ⊎ (n ≡ b.slots) → get_or nextsend₂ i 0 ≡ get_or nextsend₁ i 0
                  at (inr e) = ap (broadcast_of i) (no_slot n b.slots nextsend₁ (set nextsend₁ n x) e nextsend_is)
                  at (inl o) = ap (broadcast_of i) (a_slot n b.slots nextsend₁ (set nextsend₁ n x) o nextsend_is) ∙ get_or-set_other nextsend₁ n i x 0 d

              nextsend_eight : length nextsend₂ ≡ 8
              nextsend_eight = at some_or_none
                where
                  x : ℕ
                  x = next_send_from b.round (get_or b.offset n 0) m.u (waiting b unmet comes m.u n)

                  at : (n < b.slots) ⊎ (n ≡ b.slots) → length nextsend₂ ≡ 8
                  at (inr e) = ap length (no_slot n b.slots nextsend₁ (set nextsend₁ n x) e nextsend_is) ∙ looked.eight
                  at (inl o) = ap length (a_slot n b.slots nextsend₁ (set nextsend₁ n x) o nextsend_is) ∙ length-set nextsend₁ n x ∙ looked.eight

              nextsend_beyond : (i : ℕ) → b.slots ≤ i → i < 8 → get_or nextsend₂ i 0 ≡ no_event
              nextsend_beyond i l h = at some_or_none
                where
                  x : ℕ
                  x = next_send_from b.round (get_or b.offset n 0) m.u (waiting b unmet comes m.u n)

                  at : (n < b.slots) ⊎ (n ≡ b.slots) → get_or nextsend₂ i 0 ≡ no_event
                  at (inr e) = ap (broadcast_of i) (no_slot n b.slots nextsend₁ (set nextsend₁ n x) e nextsend_is) ∙ looked.beyond i l ∙ k.next_sends_past i l h
                  at (inl o) = nextsend_other i (λ z. omega (arith, z)) ∙ looked.beyond i l ∙ k.next_sends_past i l h

              -- a slot that is not the one that sends next takes an item after this event
              not_now : (i : ℕ) → i < b.slots → (i ≡ n → ⊥) → get_or nextsend₁ i 0 ≡ m.u → ⊥
              not_now i l d q = at one
                where
                  at : One → ⊥
                  at (none_nextsend z h) = h i l q
                  at (one_nextsend o z) = d (f.one_begins i n (m.u - 1) l o (nextsend_slot i l q) (nextsend_slot n o z))

              nextsend_on : (i : ℕ) → i < b.slots → (i ≡ n → ⊥) → (c : Bool) → pend i ≡ c → next_send_from b.round (get_or b.offset i 0) (m.u - 1) c ≡ next_send_from b.round (get_or b.offset i 0) m.u c
              unfolding next_send_from
              nextsend_on i l d false e = refl
              nextsend_on i l d true e =
                  let z = beginning_from b.round (get_or b.offset i 0) (m.u - 1) f.round_one in
                  let v : beginning_at b.round (get_or b.offset i 0) (m.u - 1) + 1 ≡ m.u → ⊥ = λ q. not_now i l d (looked.right i l ∙ ap (next_send_from b.round (get_or b.offset i 0) (m.u - 1)) e ∙ q) in
                  ap (λ (x : ℕ). x + 1) (sym (beginning_same b.round (get_or b.offset i 0) (f.offset_less i l) (m.u - 1) m.u (omega arith) (omega (arith, z, v, k.from_one))))

              nextsend_then : (i : ℕ) → i < b.slots → get_or nextsend₂ i 0 ≡ next_send_from b.round (get_or b.offset i 0) m.u (waiting b unmet comes m.u i)
              nextsend_then i l = at (two (eqb i n))
                where
                  x : ℕ
                  x = next_send_from b.round (get_or b.offset n 0) m.u (waiting b unmet comes m.u n)

                  at : (eqb i n ≡ true) ⊎ (eqb i n ≡ false) → get_or nextsend₂ i 0 ≡ next_send_from b.round (get_or b.offset i 0) m.u (waiting b unmet comes m.u i)
                  at (inl e) =
                      let z : i ≡ n = eqb-true i n e in
                      ap (broadcast_of i) (a_slot n b.slots nextsend₁ (set nextsend₁ n x) (omega (arith, z)) nextsend_is) ∙ set_there nextsend₁ n i x (omega (arith, z, looked.eight, f.few_slots)) z
                      ∙ ap (λ (j : ℕ). next_send_from b.round (get_or b.offset j 0) m.u (waiting b unmet comes m.u j)) (sym z)
                  at (inr e) =
                      let d : i ≡ n → ⊥ = eqb-false i n e in
                      nextsend_other i d ∙ looked.right i l ∙ nextsend_on i l d (pend i) refl ∙ ap (next_send_from b.round (get_or b.offset i 0) m.u) (sym (pend_comes i l d))

              -- the next event
              module _ (first : ℕ) (soonest : length m.busy ≡ 8 → Soonest b.slots m.u m.busy busy first) (ends₁ come u : ℕ)
                  (ends_is : ends₁ ≡ ends_now ends first busy m.u b.slots) (come-is : come ≡ sooner_by ends₁ slotend m.u) (u-is : u ≡ event_now nextsend₂ come 8) where
                ends_next : ends₁ ≡ come_by 0 busy m.u b.slots
                ends_next = ends_is ∙ ends_right b.slots m.u m.busy ends ending busy first g.ends (soonest k.busy_long)

                pub come_right : come ≡ come_by slotend busy m.u b.slots
                come_right = come-is ∙ ap (λ (x : ℕ). sooner_by x slotend m.u) ends_next ∙ come_new 0 slotend busy m.u b.slots (inl (omega arith))

                pub event_is : u ≡ event_by (waiting b unmet comes m.u) b.round b.offset m.u come b.slots
                event_is =
                    u-is
                    ∙ event_same (waiting b unmet comes m.u) b.round b.offset m.u come nextsend₂ (omega (arith, come_right, come_most slotend busy m.u b.slots)) b.slots f.few_slots nextsend_then nextsend_beyond

                later : m.u < u
                unfolding next_slot
                later =
                    subst (λ (x : ℕ). m.u < x) (sym event_is)
                    (event_after (waiting b unmet comes m.u) b.round b.offset m.u come b.slots
                    (subst (λ (x : ℕ). m.u < x) (sym come_right) (come_after slotend busy m.u b.slots (omega arith)))
                    (λ i l. omega (arith, beginning_from b.round (get_or b.offset i 0) m.u f.round_one)))

                not_after : u ≤ come
                not_after = omega (arith, event_is, event_come (waiting b unmet comes m.u) b.round b.offset m.u come b.slots)

                -- nothing is over between this event and the next
                slotend_ahead : (slotend ≤ m.u) ⊎ (u ≤ slotend)
                slotend_ahead = at (come_slotend slotend busy m.u b.slots)
                  where
                    at : (slotend ≤ m.u) ⊎ (come_by slotend busy m.u b.slots ≤ slotend) → (slotend ≤ m.u) ⊎ (u ≤ slotend)
                    at (inl z) = inl z
                    at (inr z) = inr (omega (arith, z, come_right, not_after))

                end_ahead : (i : ℕ) → i < b.slots → (get_or busy i 0 ≤ m.u) ⊎ (u ≤ get_or busy i 0)
                end_ahead i l = at (come_busy slotend busy m.u b.slots i l)
                  where
                    at : (get_or busy i 0 ≤ m.u) ⊎ (come_by slotend busy m.u b.slots ≤ get_or busy i 0) → (get_or busy i 0 ≤ m.u) ⊎ (u ≤ get_or busy i 0)
                    at (inl z) = inl z
                    at (inr z) = inr (omega (arith, z, come_right, not_after))

                over_at : {x : ℕ} → (x ≤ m.u) ⊎ (come ≤ x) → x ≡ u → come ≡ u
                over_at (inl z) q = absurd (omega (arith, later, z, q))
                over_at (inr z) q = omega (arith, z, q, not_after)

                came_on : (r : ℕ) → (get_or comes r 0 ≤ m.u) ⊎ (u < get_or comes r 0) → came_by comes u r ≡ came_by comes m.u r
                came_on r h = came_same comes m.u u r (omega (arith, later)) h

                -- what node i waits for
                module _ (i : ℕ) (l : i < b.slots) (nothing-new-broadcast : (heard ≤ m.u) ⊎ (u < heard)) where
                  broadcast_row : (c : ℕ) → c < b.conditions → (get_or comes (b.conditionrow + c) 0 ≤ m.u) ⊎ (u < get_or comes (b.conditionrow + c) 0)
                  broadcast_row c o = at (broadcasts_broadcast c o (item (b.conditionrow + c))) nothing-new-broadcast
                    where
                      at : (get_or comes (b.conditionrow + c) 0 ≤ m.u) ⊎ (get_or comes (b.conditionrow + c) 0 ≡ heard) → (heard ≤ m.u) ⊎ (u < heard) → (get_or comes (b.conditionrow + c) 0 ≤ m.u) ⊎ (u < get_or comes (b.conditionrow + c) 0)
                      at (inl z) h = inl z
                      at (inr z) (inl h) = inl (omega (arith, z))
                      at (inr z) (inr h) = inr (omega (arith, z))

                  own_row : (get_or busy i 0 ≤ m.u) ⊎ (u < get_or busy i 0) → (p : ℕ) → p < b.processes → get_or b.node p 0 ≡ i → (get_or comes p 0 ≤ m.u) ⊎ (u < get_or comes p 0)
                  own_row rest p o q = at (end_then p o) rest
                    where
                      e : get_or busy (get_or b.node p 0) 0 ≡ get_or busy i 0
                      e = ap (λ (z : ℕ). get_or busy z 0) q

                      at : (get_or comes p 0 ≤ m.u) ⊎ (get_or comes p 0 ≡ get_or busy (get_or b.node p 0) 0) → (get_or busy i 0 ≤ m.u) ⊎ (u < get_or busy i 0) → (get_or comes p 0 ≤ m.u) ⊎ (u < get_or comes p 0)
                      at (inl z) h = inl z
                      at (inr z) (inl h) = inl (omega (arith, z, e))
                      at (inr z) (inr h) = inr (omega (arith, z, e))

                  broadcast_knownby : (e c : ℕ) → c < b.conditions → get_or b.knownby e 0 ≡ b.conditionrow + c → (get_or comes (get_or b.knownby e 0) 0 ≤ m.u) ⊎ (u < get_or comes (get_or b.knownby e 0) 0)
                  broadcast_knownby e c o q = subst (λ (r : ℕ). (get_or comes r 0 ≤ m.u) ⊎ (u < get_or comes r 0)) (sym q) (broadcast_row c o)

                  own_knownby : (e : ℕ) → get_or b.knownby e 0 ≡ get_or b.from e 0 → (get_or comes (get_or b.from e 0) 0 ≤ m.u) ⊎ (u < get_or comes (get_or b.from e 0) 0) →
                      (get_or comes (get_or b.knownby e 0) 0 ≤ m.u) ⊎ (u < get_or comes (get_or b.knownby e 0) 0)
                  own_knownby e q h = subst (λ (r : ℕ). (get_or comes r 0 ≤ m.u) ⊎ (u < get_or comes r 0)) (sym q) h

                  -- its pending items stay
                  module _ (rest : (get_or busy i 0 ≤ m.u) ⊎ (u < get_or busy i 0)) where
                    queue_knownby : (e : ℕ) → In e (edges_of i) → (get_or b.knownby e 0 ≡ get_or b.from e 0) ⊎ ((c : ℕ) × (c < b.conditions) × (get_or b.knownby e 0 ≡ b.conditionrow + c)) →
                        (get_or comes (get_or b.knownby e 0) 0 ≤ m.u) ⊎ (u < get_or comes (get_or b.knownby e 0) 0)
                    queue_knownby e w (inl q) = let o = f.queue_own i e l w in own_knownby e q (own_row rest (get_or b.from e 0) o.0 o.1)
                    queue_knownby e w (inr c) = broadcast_knownby e c.0 c.1 c.2

                    same_still : Same b.processes b.conditionrow b.conditions b.decider b.node b.queuefirst b.queue b.from b.knownby unmet i m.u u comes comes
                    same_still =
                        record {
                          sent = λ e w. refl;
                          ended = λ e w. let o = f.queue_own i e l w in came_on (get_or b.from e 0) (own_row rest (get_or b.from e 0) o.0 o.1);
                          known = λ e w. came_on (get_or b.knownby e 0) (queue_knownby e w (f.known_rows_known e));
                          broadcastend = λ c o q. refl;
                          decided = λ c o q. came_on (get_or b.decider c 0) (own_row rest (get_or b.decider c 0) (f.deciders_low c o) q);
                        }

                    waits_still : waiting b unmet comes u i ≡ waiting b unmet comes m.u i
                    unfolding waiting
                    waits_still = pending_same b.processes b.conditionrow b.conditions b.decider b.node b.queuefirst b.queue b.from b.knownby unmet i m.u u comes comes same_still

                    wait_still : messages b unmet comes u i ≡ messages b unmet comes m.u i
                    unfolding messages
                    wait_still = waiting_same b.processes b.conditionrow b.conditions b.decider b.node b.queuefirst b.queue b.from b.knownby unmet i m.u u comes comes same_still

                  -- nothing that its processes wait for comes
                  module _ (free : get_or busy i 0 ≤ m.u) (calm : (get_or lastarrival₁ i 0 ≤ m.u) ⊎ (u < get_or lastarrival₁ i 0)) (j : ℕ) (lo : get_or b.dispatchfirst i 0 ≤ j) (hi : j < get_or b.dispatchfirst (i + 1) 0) where
                    abbrev it : ℕ
                    it = get_or b.dispatch j 0

                    local_row : (e : ℕ) → In e (edges_into b.intofirst b.into it) → get_or b.remote e 0 ≡ 0 → (get_or comes (get_or b.from e 0) 0 ≤ m.u) ⊎ (u < get_or comes (get_or b.from e 0) 0)
                    local_row e w q =
                        let t = f.dispatch_own i j l lo hi in
                        let o = f.into_own it e t.0 w in
                        own_row (inl free) (get_or b.from e 0) o.0 (o.1 q ∙ t.1)

                    known_row : (e : ℕ) → In e (edges_into b.intofirst b.into it) → (eqb (get_or b.remote e 0) 0 ≡ true) ⊎ (eqb (get_or unmet e 0) 0 ≡ false) →
                        (get_or b.knownby e 0 ≡ get_or b.from e 0) ⊎ ((c : ℕ) × (c < b.conditions) × (get_or b.knownby e 0 ≡ b.conditionrow + c)) → (get_or comes (get_or b.knownby e 0) 0 ≤ m.u) ⊎ (u < get_or comes (get_or b.knownby e 0) 0)
                    known_row e w h (inr c) = broadcast_knownby e c.0 c.1 c.2
                    known_row e w (inl t) (inl q) = own_knownby e q (local_row e w (eqb-true _ _ t))
                    known_row e w (inr t) (inl q) = let c = k.broadcastend_apart e (eqb-false _ _ t) in broadcast_knownby e c.0 c.1 c.2

                    arrived_row : (e : ℕ) → In e (edges_into b.intofirst b.into it) → eqb (get_or b.remote e 0) 0 ≡ false → (get_or comes (b.processes + e) 0 ≤ m.u) ⊎ (u < get_or comes (b.processes + e) 0)
                    arrived_row e w t = at (get_or b.remote e 0) refl
                      where
                        by : (get_or comes (b.processes + e) 0 ≤ m.u) ⊎ (get_or comes (b.processes + e) 0 ≡ get_or lastarrival₁ i 0) → (get_or lastarrival₁ i 0 ≤ m.u) ⊎ (u < get_or lastarrival₁ i 0) →
                            (get_or comes (b.processes + e) 0 ≤ m.u) ⊎ (u < get_or comes (b.processes + e) 0)
                        by (inl z) h = inl z
                        by (inr z) (inl h) = inl (omega (arith, z))
                        by (inr z) (inr h) = inr (omega (arith, z))

                        at : (r : ℕ) → get_or b.remote e 0 ≡ r → (get_or comes (b.processes + e) 0 ≤ m.u) ⊎ (u < get_or comes (b.processes + e) 0)
                        at zero q = absurd (eqb-false _ _ t q)
                        at (suc p) q =
                            let o = f.dispatch_own i j l lo hi in
                            let z : p ≡ i = sym ((f.into_own it e o.0 w).2 p q) ∙ o.1 in
                            by (sends_arrive e i l (q ∙ ap suc z) (item (b.processes + e))) calm

                    alike : Alike b.processes b.remote b.from b.knownby unmet b.intofirst b.into m.u u comes comes it
                    alike =
                        record {
                          fresh = refl;
                          arrived = λ e w t. came_on (b.processes + e) (arrived_row e w t);
                          ended = λ e w t. came_on (get_or b.from e 0) (local_row e w (eqb-true _ _ t));
                          known = λ e w h. came_on (get_or b.knownby e 0) (known_row e w h (f.known_rows_known e));
                        }

                -- nodes that found no start, with rows that the event changed only from not placed to after the clock
                idle_on : (xs : List ℕ) (i : ℕ) → i < b.slots → ((r : ℕ) → (get_or comes r 0 ≡ get_or xs r 0) ⊎ ((get_or xs r 0 ≡ 0) × (m.u < get_or comes r 0))) → ((p : ℕ) → p < b.processes → get_or comes p 0 ≡ get_or xs p 0) →
                    idle_by run m.u xs i → idle_by run m.u comes i
                idle_on xs i l grown own h j lo hi =
                    idle_stays b.processes b.remote b.from b.knownby unmet run b.asany b.intofirst b.into m.u m.u xs comes (get_or b.dispatch j 0)
                    (record {
                      fresh = ap (λ (x : ℕ). eqb x 0) (own (get_or b.dispatch j 0) (f.dispatch_own i j l lo hi).0);
                      arrived = λ e w t. came_grown xs comes m.u (b.processes + e) (grown (b.processes + e));
                      ended = λ e w t. came_grown xs comes m.u (get_or b.from e 0) (grown (get_or b.from e 0));
                      known = λ e w t. came_grown xs comes m.u (get_or b.knownby e 0) (grown (get_or b.knownby e 0));
                    })
                    ∙ h j lo hi

                -- none that is free has a start left: where nodes looked they found none, and elsewhere nothing was new
                idle_now : (c : Bool) → eqb m.come m.u ≡ c → at_last ≡ (if c then all_started else at_first) → (i : ℕ) → i < b.slots → get_or busy i 0 ≤ m.u → idle_by run m.u comes i
                idle_now true e q i l h =
                    idle_on rows i l item_grown process_row
                    (subst (λ (xs : List ℕ). idle_by run m.u xs i) (sym (ap (λ (s : Ends). s.comes) q))
                    (starts_idle b.processes b.remote b.from b.knownby unmet run b.asany b.intofirst b.into m.u b.dispatchfirst b.dispatch b.ticks b.slots new m.busy m.comes
                    f.dispatch_members (nothing_new run run_is new New-is) (omega (arith, k.busy_long, f.few_slots)) i l (omega (arith, ap (λ (s : Ends). get_or s.busy i 0) q))))
                idle_now false e q i l h =
                    let d : m.come ≡ m.u → ⊥ = eqb-false _ _ e in
                    let calm : get_or lastarrival i 0 ≡ m.u → ⊥ = λ z. d (k.lastarrival_over i l z) in
                    let same : get_or busy i 0 ≡ get_or m.busy i 0 = ap (λ (s : Ends). get_or s.busy i 0) q in
                    let over : get_or m.busy i 0 ≡ m.u → ⊥ = λ z. d (k.end_over i l z) in
                    let free : get_or m.busy i 0 < m.u = omega (arith, h, same, over) in
                    idle_on rows i l item_grown process_row
                    (subst (λ (xs : List ℕ). idle_by run m.u xs i) (sym (ap (λ (s : Ends). s.comes) q)) (idle_still run run_is i l free calm))

                -- a slot with an item pending does not begin before the next event
                nextsend_still : (i : ℕ) → i < b.slots → (c : Bool) → waiting b unmet comes m.u i ≡ c → next_send_from b.round (get_or b.offset i 0) m.u c ≡ next_send_from b.round (get_or b.offset i 0) (u - 1) c
                unfolding next_send_from next_slot
                nextsend_still i l false e = refl
                nextsend_still i l true e =
                    let z = event_slot (waiting b unmet comes m.u) b.round b.offset m.u come b.slots i l e in
                    ap (λ (x : ℕ). x + 1) (sym (beginning_same b.round (get_or b.offset i 0) (f.offset_less i l) m.u (u - 1) (omega (arith, later)) (omega (arith, z, event_is, later))))

                pub kept_next : (place passed noted : List ℕ) → Kept b unmet (moment u come slotend heard run busy comes place passed noted) lastarrival₁ nextsend₂
                kept_next place passed noted =
                    record {
                      from_one = omega (arith, later);
                      broadcastend_apart = k.broadcastend_apart;
                      come_from = not_after;
                      end_over = λ i l q. over_at (subst (λ (x : ℕ). (get_or busy i 0 ≤ m.u) ⊎ (x ≤ get_or busy i 0)) (sym come_right) (come_busy slotend busy m.u b.slots i l)) q;
                      lastarrival_over = λ i l q. over_at (late (lastarrival_carried i l) (subst (λ (x : ℕ). (slotend ≤ m.u) ⊎ (x ≤ slotend)) (sym come_right) (come_slotend slotend busy m.u b.slots))) q;
                      slotend_past = slotend_then slotend_either;
                      items = λ r l. on_to (items_carried r l (item r));
                      broadcast_with = on_to broadcast_carried;
                      broadcast_arrivals = λ i l. before_it (broadcast_lastarrival i l);
                      lastarrival_with = λ i l. on_to (lastarrival_carried i l);
                      pending_broadcasts = λ c l. on_to (broadcasts_broadcast c l (item (b.conditionrow + c)));
                      sends = λ e i l r. on_to (sends_arrive e i l r (item (b.processes + e)));
                      ends_last = λ i l. on_to (end_then i l);
                      idle = λ i l free calm j lo hi.
                          let now : get_or busy i 0 ≤ m.u = ended i l free in
                          let still : (get_or lastarrival₁ i 0 ≤ m.u) ⊎ (u < get_or lastarrival₁ i 0) = not_at calm (late (lastarrival_carried i l) slotend_ahead) in
                          idle_stays b.processes b.remote b.from b.knownby unmet run b.asany b.intofirst b.into m.u u comes comes (get_or b.dispatch j 0)
                          (alike i l (unheard i l still) now still j lo hi)
                          ∙ idle_now (eqb m.come m.u) refl begun_is i l now j lo hi;
                      next_sends = λ i l d e. nextsend_then i l ∙ nextsend_still i l (waiting b unmet comes m.u i) refl ∙ ap (next_send_from b.round (get_or b.offset i 0) (u - 1)) (sym (waits_still i l (not_at d (late broadcast_carried slotend_ahead)) (not_at e (end_ahead i l))));
                      next_sends_past = nextsend_beyond;
                      busy_long = g.long;
                      lastarrival_long = lastarrival_eight;
                      nextsend_long = nextsend_eight;
                      comes_long = rows_all;
                    }
                  where
                    on_to : {x y : ℕ} → (x ≤ m.u) ⊎ (x ≡ y) → (x ≤ u) ⊎ (x ≡ y)
                    on_to (inl z) = inl (omega (arith, later))
                    on_to (inr z) = inr z

                    before_it : {x y : ℕ} → (x ≤ m.u) ⊎ (y ≡ x) → (x < u) ⊎ (y ≡ x)
                    before_it (inl z) = inl (omega (arith, later))
                    before_it (inr z) = inr z

                    ended : (i : ℕ) → i < b.slots → get_or busy i 0 < u → get_or busy i 0 ≤ m.u
                    ended i l free = at (end_ahead i l)
                      where
                        at : (get_or busy i 0 ≤ m.u) ⊎ (u ≤ get_or busy i 0) → get_or busy i 0 ≤ m.u
                        at (inl z) = z
                        at (inr z) = absurd (omega arith)

                    unheard : (i : ℕ) → i < b.slots → (get_or lastarrival₁ i 0 ≤ m.u) ⊎ (u < get_or lastarrival₁ i 0) → (heard ≤ m.u) ⊎ (u < heard)
                    unheard i l still = at (broadcast_lastarrival i l) still
                      where
                        at : (heard ≤ m.u) ⊎ (get_or lastarrival₁ i 0 ≡ heard) → (get_or lastarrival₁ i 0 ≤ m.u) ⊎ (u < get_or lastarrival₁ i 0) → (heard ≤ m.u) ⊎ (u < heard)
                        at (inl z) h = inl z
                        at (inr z) (inl h) = inl (omega (arith, z))
                        at (inr z) (inr h) = inr (omega (arith, z))

                    slotend_then : (slotend ≡ m.slotend) ⊎ ((n < b.slots) × (slotend ≡ end)) → Past b u slotend
                    slotend_then (inl q) = subst (Past b u) (sym q) (past_later b m.u u m.slotend (omega (arith, later)) k.slotend_past)
                    slotend_then (inr q) = under_way n (m.u - 1) q.0 (begins_n q.0) (omega (arith, later, k.from_one)) (omega (arith, q.1, k.from_one))

                -- the messages that wait stand in their array at the next event
                pub queued_next : (place passed noted wait waitend : List ℕ) → Roomy wait waitend → ((i : ℕ) → i < b.slots → Waiting b.queuefirst wait waitend i (messages b unmet comes m.u i)) →
                    Queued b unmet (moment u come slotend heard run busy comes place passed noted) wait waitend
                queued_next place passed noted wait waitend r w =
                    record {
                      roomy = r;
                      waits = λ i l d e. subst (Waiting b.queuefirst wait waitend i) (sym (wait_still i l (not_at d (late broadcast_carried slotend_ahead)) (not_at e (end_ahead i l)))) (w i l);
                    }

                -- what the event leaves is the next moment, and what is kept goes by it
                pub event_on : (noted : List ℕ) → noted ≡ notes b unmet m →
                    (◌≡◌ {A = Moment} (moment u come slotend heard run busy comes place passed noted) (next b unmet m)) × Kept b unmet (moment u come slotend heard run busy comes place passed noted) lastarrival₁ nextsend₂
                event_on noted noted_is = (next_parts b unmet m noted_is run_is busy_is rows_is sends_slot_is come_right event_is, kept_next place passed noted)

                -- and so does the next end of a process
                pub ending_on : Ending b.slots u busy ends₁
                ending_on = ending_next b.slots m.u u busy ends₁ ends_next later (omega (arith, not_after, come-is, sooner_least ends₁ slotend m.u))
