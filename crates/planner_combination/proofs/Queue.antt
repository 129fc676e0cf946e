-- What a slot takes of the messages that wait is what it takes of its queue; so are the messages that it leaves, the
-- nodes at which its items arrive, and whether an item is left pending.
-- Assumes nothing.
use Rattle.std.specs.Prelude.{if◌then◌else◌}
use Prim.Native.Nat.{ℕ, ◌+◌, ◌≤◌, ◌<◌}
use mathlib.Core.Path.{◌≡◌, refl, sym, ap, ◌∙◌, subst}
use mathlib.Core.Logic.{◌⊎◌, inl, inr}
use mathlib.Core.Bool.{Bool, true, false}
use mathlib.Core.List.{List, Memᴰ as In}
use native.Mathlib.Omega.{arith}
use lib.Dec.{eqb}
use lib.ListN.{length, get_or}
use borrow.Author.Tests.{eqb-true, eqb-false, eq-eqb, ne_eqb}
use Rattle.lists.proofs.Tests.{two}
use Rattle.lists.proofs.Members.{keep_in}
use Rattle.log_queries.specs.Reading.{part}
use Rattle.planner_sends.specs.Packing.{Load, waits_by, arrive_all, arrive_each, arrive_by, send_by}
use Rattle.planner_sends.proofs.Left.{taken_by, waiting_by, arrivals_by, left_pending}
use Rattle.plan_index.specs.declared.PlanIndex.{PlanIndex}
use Rattle.planner_sends.specs.NextSends.{pending_in, Waiting, Roomy}
use Rattle.planner_packing.specs.Slot.{Bus, bus, filled, with_broadcast_in, taken_in, fill_with, left_with, arrive_with, fill_by, SlotSent}
use Rattle.planner_sends.proofs.Waits.{relisted_own, relisted_other, relisted_roomy, waiting_small}
use Rattle.planner_combination.specs.Events.{waiting, messages, Fits}

-- a choice by whether a node is the number of slots, where what is chosen for a node is the same
pub chosen_same : {A : Type 0} (n slots : ℕ) (x y z : A) → n ≤ slots → (n < slots → y ≡ z) → (if eqb n slots then x else y) ≡ (if eqb n slots then x else z)
chosen_same {A} n slots x y z l h = at (two (eqb n slots))
  where
    at : (eqb n slots ≡ true) ⊎ (eqb n slots ≡ false) → (if eqb n slots then x else y) ≡ (if eqb n slots then x else z)
    at (inl e) = rw e refl
    at (inr e) = let d : n ≡ slots → ⊥ = eqb-false n slots e in rw e (h (omega (arith, d)))

module _ (b : PlanIndex) (f : Fits b) (unmet : List ℕ) (n u slotend broadcastend : ℕ) (rows place passed : List ℕ) (o : n < b.slots) (long : b.conditionrow + b.conditions ≤ length rows)
    (ws : List ℕ) (ws_is : ws ≡ messages b unmet rows u n) where
  abbrev es : List ℕ
  es = part b.queue (get_or b.queuefirst n 0) (get_or b.queuefirst (n + 1) 0)

  abbrev end : ℕ
  end = u + get_or b.lasts n 0

  abbrev start : Bus
  start = bus slotend broadcastend rows place passed

  abbrev room : ℕ
  room = get_or b.rooms n 0

  abbrev by_queue : Load
  by_queue = send_by b.processes b.conditionrow b.conditions b.decider b.node b.queue b.from b.knownby unmet b.bytes n (get_or b.queuefirst n 0) (get_or b.queuefirst (n + 1) 0) room u end rows place

  abbrev by_list : Load
  by_list = taken_in b.processes b.conditionrow b.conditions b.decider b.node b.bytes b.lasts b.rooms n u ws rows place

  abbrev is_broadcast : Bool
  is_broadcast = with_broadcast_in b.processes b.conditionrow b.conditions b.decider b.node b.bytes b.lasts b.rooms n u rows place

  late : u < end
  late = omega (arith, f.lasts_one n o)

  low : (e : ℕ) → In e es → b.processes + e < b.conditionrow
  low e m = f.remote_row e (f.queue_own n e o m).2

  loads : by_list ≡ by_queue
  unfolding messages
  loads =
      ap (λ (xs : List ℕ). taken_in b.processes b.conditionrow b.conditions b.decider b.node b.bytes b.lasts b.rooms n u xs rows place) ws_is
      ∙ sym (taken_by b.processes b.conditionrow b.conditions b.decider b.node b.queue b.from b.knownby unmet b.bytes n (get_or b.queuefirst n 0) (get_or b.queuefirst (n + 1) 0) room u end late f.few_conditions rows place low long (f.queue_once n o))

  pub fill_same : fill_with b.processes b.conditionrow b.conditions b.decider b.node b.bytes b.lasts b.rooms n u ws (bus slotend broadcastend rows place passed)
      ≡ fill_by b.processes b.conditionrow b.conditions b.decider b.node b.queuefirst b.queue b.from b.knownby unmet b.bytes b.lasts b.rooms n u (bus slotend broadcastend rows place passed)
  unfolding fill_with fill_by
  fill_same = ap (λ (l : Load). filled n end l is_broadcast start) loads

  -- in what follows a slot leaves s
  module _ (s : Bus) (s-is : s ≡ fill_by b.processes b.conditionrow b.conditions b.decider b.node b.queuefirst b.queue b.from b.knownby unmet b.bytes b.lasts b.rooms n u (bus slotend broadcastend rows place passed)) where
    rows_are : s.comes ≡ by_queue.comes
    unfolding fill_by filled
    rows_are = ap (λ (z : Bus). z.comes) s-is

    pub short_same : (taken_in b.processes b.conditionrow b.conditions b.decider b.node b.bytes b.lasts b.rooms n u ws rows place).short ≡ waiting b unmet s.comes u n
    unfolding waiting pending_in
    short_same =
        ap (λ (l : Load). l.short) loads
        ∙ sym (left_pending b.processes b.conditionrow b.conditions b.decider b.node b.queue b.from b.knownby unmet b.bytes n (get_or b.queuefirst n 0) (get_or b.queuefirst (n + 1) 0) room u end late f.few_conditions rows place low long)
        ∙ ap (λ (xs : List ℕ). pending_in b.processes b.conditionrow b.conditions b.decider b.node b.queuefirst b.queue b.from b.knownby unmet xs u n) (sym rows_are)

    pub left_same : left_with b.processes b.conditionrow b.conditions b.decider b.node b.bytes b.lasts b.rooms n u ws rows place ≡ messages b unmet s.comes u n
    unfolding messages left_with
    left_same =
        ap (λ (xs : List ℕ). left_with b.processes b.conditionrow b.conditions b.decider b.node b.bytes b.lasts b.rooms n u xs rows place) ws_is
        ∙ sym (waiting_by b.processes b.conditionrow b.conditions b.decider b.node b.queue b.from b.knownby unmet b.bytes n (get_or b.queuefirst n 0) (get_or b.queuefirst (n + 1) 0) room u end late f.few_conditions rows place low long (f.queue_once n o))
        ∙ ap (λ (xs : List ℕ). messages b unmet xs u n) (sym rows_are)

    pub arrive_same : (lastarrival : List ℕ) → ((e : ℕ) → In e es → get_or rows (b.processes + e) 0 ≤ u) → broadcastend ≤ u →
        arrive_with b.processes b.conditionrow b.conditions b.decider b.node b.bytes b.lasts b.rooms n u b.remote b.slots ws rows place lastarrival
        ≡ arrive_by b.processes b.remote s.comes (u + get_or b.lasts n 0) b.slots s.broadcastend (part b.queue (get_or b.queuefirst n 0) (get_or b.queuefirst (n + 1) 0)) lastarrival
    unfolding messages arrive_with arrive_by fill_by filled
    arrive_same lastarrival early past =
        ap (λ (xs : List ℕ). arrive_with b.processes b.conditionrow b.conditions b.decider b.node b.bytes b.lasts b.rooms n u b.remote b.slots xs rows place lastarrival) ws_is
        ∙ sym (arrivals_by b.processes b.conditionrow b.conditions b.decider b.node b.queue b.from b.knownby unmet b.bytes n (get_or b.queuefirst n 0) (get_or b.queuefirst (n + 1) 0) room u end late f.few_conditions rows place low long (f.queue_once n o)
        b.remote (if is_broadcast then arrive_all end b.slots lastarrival else lastarrival) early)
        ∙ (λ j. arrive_each b.processes b.remote (sym rows_are j) end es (if sym broadcast_are j then arrive_all end b.slots lastarrival else lastarrival))
      where
        heard : s.broadcastend ≡ (if is_broadcast then end else broadcastend)
        heard = ap (λ (z : Bus). z.broadcastend) s-is

        at : (t : Bool) → s.broadcastend ≡ (if t then end else broadcastend) → eqb s.broadcastend end ≡ t
        at true q = eq-eqb s.broadcastend end q
        at false q = ne_eqb s.broadcastend end (λ z. absurd (omega (arith, q, z, past, late)))

        broadcast_are : eqb s.broadcastend end ≡ is_broadcast
        broadcast_are = at is_broadcast heard

-- the messages that wait at a node are of edges that lead to others
module _ (b : PlanIndex) (f : Fits b) (unmet rows : List ℕ) (u n : ℕ) (o : n < b.slots) where
  pub message_small : (e : ℕ) → In e (messages b unmet rows u n) → e < 128
  unfolding messages
  message_small e m = waiting_small b.from b.knownby b.queue f.within_queue (waits_by b.processes b.from b.knownby unmet rows u) (get_or b.queuefirst n 0) (get_or b.queuefirst (n + 1) 0) e m

  pub message_remote : (e : ℕ) → In e (messages b unmet rows u n) → 1 ≤ get_or b.remote e 0
  unfolding messages
  message_remote e m =
      (f.queue_own n e o (keep_in (waits_by b.processes b.from b.knownby unmet rows u) (part b.queue (get_or b.queuefirst n 0) (get_or b.queuefirst (n + 1) 0)) m).0).2

-- the messages that wait after a slot, at its node and at the others
module _ (b : PlanIndex) (f : Fits b) (n : ℕ) (left : List ℕ) (wait waitend wait' waitend' : List ℕ) (low : n ≤ b.slots) (s : SlotSent b.slots n b.queuefirst left wait waitend wait' waitend') where
  pub sending_node_roomy : Roomy wait waitend → (n < b.slots → (x : ℕ) → In x left → x < 128) → Roomy wait' waitend'
  sending_node_roomy r small = at (two (eqb n b.slots))
    where
      at : (eqb n b.slots ≡ true) ⊎ (eqb n b.slots ≡ false) → Roomy wait' waitend'
      at (inl e) = let q = s.kept (eqb-true n b.slots e) in subst (λ (xs : List ℕ). Roomy xs waitend') (sym q.0) (subst (Roomy wait) (sym q.1) r)
      at (inr e) =
          let d : n ≡ b.slots → ⊥ = eqb-false n b.slots e in
          relisted_roomy b.queuefirst b.slots f.queue_rising n left wait waitend wait' waitend' (s.left (omega (arith, d))) r (small (omega (arith, d)))

  pub sending_node_own : Roomy wait waitend → n < b.slots → Waiting b.queuefirst wait' waitend' n left
  sending_node_own r l = relisted_own b.queuefirst b.slots f.queue_rising n left wait waitend wait' waitend' (s.left l) (omega (arith, r.ends_long, f.few_slots))

  pub sending_node_other : (i : ℕ) → i < b.slots → (i ≡ n → ⊥) → (ms : List ℕ) → Waiting b.queuefirst wait waitend i ms → Waiting b.queuefirst wait' waitend' i ms
  sending_node_other i l d ms w = at (two (eqb n b.slots))
    where
      at : (eqb n b.slots ≡ true) ⊎ (eqb n b.slots ≡ false) → Waiting b.queuefirst wait' waitend' i ms
      at (inl e) =
          let q = s.kept (eqb-true n b.slots e) in
          subst (λ (xs : List ℕ). Waiting b.queuefirst xs waitend' i ms) (sym q.0) (subst (λ (xs : List ℕ). Waiting b.queuefirst wait xs i ms) (sym q.1) w)
      at (inr e) =
          let z : n ≡ b.slots → ⊥ = eqb-false n b.slots e in
          let m : n < b.slots = omega (arith, z) in
          relisted_other b.queuefirst b.slots f.queue_rising n left wait waitend wait' waitend' (s.left m) m i l d ms w
