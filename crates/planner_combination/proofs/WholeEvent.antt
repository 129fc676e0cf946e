-- An event as a whole: what its steps leave, with the messages that wait in their array, is the next moment, and what
-- is kept and what waits go by it.
-- Assumes nothing.
use Rattle.std.specs.Prelude.{if◌then◌else◌}
use Prim.Native.Nat.{ℕ, ◌+◌, ◌-◌, ◌≤◌, ◌<◌}
use mathlib.Core.Path.{◌≡◌, sym, ap, ◌∙◌, subst}
use mathlib.Core.Logic.{◌⊎◌, inl, inr}
use mathlib.Core.Bool.{Bool, true, false}
use mathlib.Core.List.{List, Memᴰ as In}
use native.Mathlib.Omega.{arith}
use lib.Dec.{eqb}
use lib.ListN.{length, get_or, set}
use borrow.Author.Tests.{eqb-true, eqb-false, ne_eqb}
use Rattle.lists.proofs.Tests.{two}
use Rattle.log_queries.specs.Reading.{part}
use Rattle.model.specs.Listing.{bit}
use Rattle.planner_dispatch.specs.ChangedNodes.{Soonest}
use Rattle.planner_sends.specs.Packing.{arrive_by}
use Rattle.plan_index.specs.declared.PlanIndex.{PlanIndex}
use Rattle.planner_sends.specs.Clocks.{new_at, sending_node_by, sooner_by, ends_now, changes_at, event_now}
use Rattle.planner_sends.specs.NextSends.{next_send_from, next_round, update_by, Waiting, Roomy, UpdatedAll}
use Rattle.planner_packing.specs.Slot.{Bus, bus, taken_in, fill_with, left_with, arrive_with, fill_by, SlotSent}
use Rattle.bus_timetable.specs.Bus.{beginning_at}
use Rattle.planner_combination.specs.Events.{last_event, Moment, moment, hears, begins_with, waiting, messages, notes, next, Fits}
use Rattle.planner_combination.specs.Kept.{Kept, Queued}
use Rattle.planner_combination.specs.Ending.{Ending}
use Rattle.planner_combination.proofs.Beginnings.{next_round_same}
use Rattle.planner_combination.proofs.Keeping.{queued_now, node_low, node_begins, rows_room, wait_rows, rows_arrived, broadcast_arrived, wait_comes, queued_next, event_on, ending_on}
use Rattle.planner_combination.proofs.Queue.{chosen_same, fill_same, short_same, left_same, arrive_same, message_small, message_remote, sending_node_roomy, sending_node_own, sending_node_other}

module _ (b : PlanIndex) (f : Fits b) (unmet : List ℕ) (m : Moment) (lastarrival nextsend : List ℕ) (k : Kept b unmet m lastarrival nextsend)
    (new : ℕ) (New-is : m.come ≡ m.u → (n : ℕ) → n < 8 → bit new n ≡ new_at lastarrival m.busy m.u n) (ends : ℕ) (ending : Ending b.slots m.u m.busy ends) (look : ℕ) (look_is : look ≡ changes_at m.broadcastend ends m.u) (wait waitend : List ℕ) (queued : Queued b unmet m wait waitend)
    (wait₁ waitend₁ : List ℕ) (updated : UpdatedAll m.broadcastend m.u look b.slots m.busy b.queuefirst (messages b unmet m.comes m.u) wait waitend wait₁ waitend₁)
    (nextsend₁ : List ℕ) (update_is : nextsend₁ ≡ update_by m.broadcastend m.u (waiting b unmet m.comes m.u) m.busy b.round b.offset look b.slots nextsend)
    (low : m.u ≤ last_event) (n : ℕ) (sending-node-is : n ≡ sending_node_by nextsend₁ m.u b.slots) where
  -- what waits once the nodes are looked at
  pub roomy_now : Roomy wait₁ waitend₁
  roomy_now = (queued_now b f unmet m lastarrival nextsend k ends ending look look_is wait waitend wait₁ waitend₁ queued updated).0

  pub waits_now : (i : ℕ) → i < b.slots → Waiting b.queuefirst wait₁ waitend₁ i (messages b unmet m.comes m.u i)
  waits_now = (queued_now b f unmet m lastarrival nextsend k ends ending look look_is wait waitend wait₁ waitend₁ queued updated).1

  abbrev ws : List ℕ
  ws = part wait₁ (get_or b.queuefirst n 0) (get_or waitend₁ n 0)

  pub remote_now : n < b.slots → (e : ℕ) → In e (part wait₁ (get_or b.queuefirst n 0) (get_or waitend₁ n 0)) → 1 ≤ get_or b.remote e 0
  remote_now o e w = message_remote b f unmet m.comes m.u n o e (subst (λ (xs : List ℕ). In e xs) (waits_now n o).holds w)

  node_in : n ≤ b.slots
  node_in = node_low b f unmet m lastarrival nextsend k new New-is ends ending look look_is nextsend₁ update_is low n sending-node-is

  begins_now : n < b.slots → beginning_at b.round (get_or b.offset n 0) (m.u - 1) ≡ m.u - 1
  begins_now = node_begins b f unmet m lastarrival nextsend k new New-is ends ending look look_is nextsend₁ update_is low n sending-node-is

  module _ (run : List ℕ) (run_is : run ≡ hears b unmet m) (busy rows : List ℕ) (busy_is : busy ≡ (begins_with b unmet run m).busy) (rows_is : rows ≡ (begins_with b unmet run m).comes) where
    abbrev before : Bus
    before = bus m.slotend m.broadcastend rows m.place m.passed

    long : b.conditionrow + b.conditions ≤ length rows
    long = rows_room b f unmet m lastarrival nextsend k new New-is ends ending look look_is nextsend₁ update_is low n sending-node-is run run_is busy rows busy_is rows_is

    ws_is : n < b.slots → ws ≡ messages b unmet rows m.u n
    ws_is o = (waits_now n o).holds ∙ sym (wait_rows b f unmet m lastarrival nextsend k new New-is ends ending look look_is nextsend₁ update_is low n sending-node-is run run_is busy rows busy_is rows_is n)

    module _ (slotend heard : ℕ) (comes place passed : List ℕ)
        (list-is : bus slotend heard comes place passed ≡ (if eqb n b.slots then before else fill_with b.processes b.conditionrow b.conditions b.decider b.node b.bytes b.lasts b.rooms n m.u ws before)) where
      abbrev filled : Bus
      filled = fill_by b.processes b.conditionrow b.conditions b.decider b.node b.queuefirst b.queue b.from b.knownby unmet b.bytes b.lasts b.rooms n m.u before

      bus_is : bus slotend heard comes place passed ≡ (if eqb n b.slots then before else filled)
      bus_is =
          list-is
          ∙ chosen_same n b.slots before (fill_with b.processes b.conditionrow b.conditions b.decider b.node b.bytes b.lasts b.rooms n m.u ws before) filled node_in
          (λ o. fill_same b f unmet n m.u m.slotend m.broadcastend rows m.place m.passed o long ws (ws_is o))

      left_is : n < b.slots → bus slotend heard comes place passed ≡ filled
      left_is o = bus_is ∙ ap (λ (c : Bool). if c then before else filled) (ne_eqb n b.slots (λ q. omega arith))

      abbrev left : List ℕ
      left = left_with b.processes b.conditionrow b.conditions b.decider b.node b.bytes b.lasts b.rooms n m.u ws rows m.place

      left_messages : n < b.slots → left ≡ messages b unmet comes m.u n
      left_messages o = left_same b f unmet n m.u m.slotend m.broadcastend rows m.place m.passed o long ws (ws_is o) (bus slotend heard comes place passed) (left_is o)

      module _ (lastarrival₁ nextsend₂ wait₂ waitend₂ : List ℕ)
          (arrive-list : lastarrival₁ ≡ (if eqb n b.slots then lastarrival else arrive_with b.processes b.conditionrow b.conditions b.decider b.node b.bytes b.lasts b.rooms n m.u b.remote b.slots ws rows m.place lastarrival))
          (nextsend-list : nextsend₂ ≡ (if eqb n b.slots then nextsend₁ else set nextsend₁ n (next_round b.round m.u (taken_in b.processes b.conditionrow b.conditions b.decider b.node b.bytes b.lasts b.rooms n m.u ws rows m.place).short)))
          (sending_node : SlotSent b.slots n b.queuefirst left wait₁ waitend₁ wait₂ waitend₂)
          (first : ℕ) (soonest : length m.busy ≡ 8 → Soonest b.slots m.u m.busy busy first) (ends₁ come u : ℕ)
          (ends_is : ends₁ ≡ ends_now ends first busy m.u b.slots) (come-is : come ≡ sooner_by ends₁ slotend m.u) (u-is : u ≡ event_now nextsend₂ come 8) (noted : List ℕ) (noted_is : noted ≡ notes b unmet m) where
        roomy_then : Roomy wait₂ waitend₂
        roomy_then = sending_node_roomy b f n left wait₁ waitend₁ wait₂ waitend₂ node_in sending_node roomy_now (λ o x w. message_small b f unmet comes m.u n o x (subst (λ (xs : List ℕ). In x xs) (left_messages o) w))

        lastarrival_is : lastarrival₁ ≡ (if eqb n b.slots then lastarrival else arrive_by b.processes b.remote comes (m.u + get_or b.lasts n 0) b.slots heard (part b.queue (get_or b.queuefirst n 0) (get_or b.queuefirst (n + 1) 0)) lastarrival)
        lastarrival_is =
            arrive-list
            ∙ chosen_same n b.slots lastarrival (arrive_with b.processes b.conditionrow b.conditions b.decider b.node b.bytes b.lasts b.rooms n m.u b.remote b.slots ws rows m.place lastarrival) _ node_in
            (λ o.
            arrive_same b f unmet n m.u m.slotend m.broadcastend rows m.place m.passed o long ws (ws_is o) (bus slotend heard comes place passed) (left_is o) lastarrival
            (rows_arrived b f unmet m lastarrival nextsend k new New-is ends ending look look_is nextsend₁ update_is low n sending-node-is run run_is busy rows busy_is rows_is o) (broadcast_arrived b f unmet m lastarrival nextsend k new New-is ends ending look look_is nextsend₁ update_is low n sending-node-is run run_is busy rows busy_is rows_is o))

        nextsend_is : nextsend₂ ≡ (if eqb n b.slots then nextsend₁ else set nextsend₁ n (next_send_from b.round (get_or b.offset n 0) m.u (waiting b unmet comes m.u n)))
        nextsend_is =
            nextsend-list
            ∙ chosen_same n b.slots nextsend₁ (set nextsend₁ n (next_round b.round m.u (taken_in b.processes b.conditionrow b.conditions b.decider b.node b.bytes b.lasts b.rooms n m.u ws rows m.place).short)) _ node_in
            (λ o.
            ap (λ (c : Bool). set nextsend₁ n (next_round b.round m.u c))
            (short_same b f unmet n m.u m.slotend m.broadcastend rows m.place m.passed o long ws (ws_is o) (bus slotend heard comes place passed) (left_is o))
            ∙ ap (set nextsend₁ n) (next_round_same b.round (get_or b.offset n 0) (f.offset_less n o) m.u k.from_one (begins_now o) (waiting b unmet comes m.u n)))

        waits_then : (i : ℕ) → i < b.slots → Waiting b.queuefirst wait₂ waitend₂ i (messages b unmet comes m.u i)
        waits_then i l = at (two (eqb i n))
          where
            at : (eqb i n ≡ true) ⊎ (eqb i n ≡ false) → Waiting b.queuefirst wait₂ waitend₂ i (messages b unmet comes m.u i)
            at (inl e) =
                let q : n ≡ i = sym (eqb-true i n e) in
                let o : n < b.slots = omega (arith, q) in
                subst (λ (j : ℕ). Waiting b.queuefirst wait₂ waitend₂ j (messages b unmet comes m.u j)) q
                (subst (Waiting b.queuefirst wait₂ waitend₂ n) (left_messages o) (sending_node_own b f n left wait₁ waitend₁ wait₂ waitend₂ node_in sending_node roomy_now o))
            at (inr e) =
                let d : i ≡ n → ⊥ = eqb-false i n e in
                subst (Waiting b.queuefirst wait₂ waitend₂ i) (sym (wait_comes b f unmet m lastarrival nextsend k new New-is ends ending look look_is nextsend₁ update_is low n sending-node-is run run_is busy rows busy_is rows_is slotend heard comes place passed bus_is i l d))
                (sending_node_other b f n left wait₁ waitend₁ wait₂ waitend₂ node_in sending_node i l d (messages b unmet m.comes m.u i) (waits_now i l))

        pub event-whole :
            (◌≡◌ {A = Moment} (moment u come slotend heard run busy comes place passed noted) (next b unmet m))
            × (Kept b unmet (moment u come slotend heard run busy comes place passed noted) lastarrival₁ nextsend₂ × (Ending b.slots u busy ends₁ × Queued b unmet (moment u come slotend heard run busy comes place passed noted) wait₂ waitend₂))
        event-whole =
            let on = event_on b f unmet m lastarrival nextsend k new New-is ends ending look look_is nextsend₁ update_is low n sending-node-is run run_is busy rows busy_is rows_is slotend heard comes place passed bus_is lastarrival₁ nextsend₂ lastarrival_is nextsend_is first soonest ends₁ come u ends_is come-is u-is noted noted_is in
            let after = ending_on b f unmet m lastarrival nextsend k new New-is ends ending look look_is nextsend₁ update_is low n sending-node-is run run_is busy rows busy_is rows_is slotend heard comes place passed bus_is lastarrival₁ nextsend₂ lastarrival_is nextsend_is first soonest ends₁ come u ends_is come-is u-is in
            (on.0, (on.1, (after, queued_next b f unmet m lastarrival nextsend k new New-is ends ending look look_is nextsend₁ update_is low n sending-node-is run run_is busy rows busy_is rows_is slotend heard comes place passed bus_is lastarrival₁ nextsend₂ lastarrival_is nextsend_is first soonest ends₁ come u ends_is come-is u-is place passed noted wait₂ waitend₂ roomy_then waits_then)))
