-- What is looked at as an event begins: by node when its slot next takes an item, and the node whose slot takes one
-- now. That this slot alone sends is that the slot that begins sends, and the next event is the one that the kept
-- array gives.
-- Assumes nothing.
use Rattle.std.specs.Prelude.{if◌then◌else◌}
use Prim.Native.Nat.{ℕ, zero, suc, min, ◌+◌, ◌-◌, ◌≤◌, ◌<◌}
use mathlib.Core.Path.{◌≡◌, refl, sym, ap, ◌∙◌}
use mathlib.Core.Logic.{◌⊎◌, inl, inr}
use mathlib.Core.Bool.{Bool, true, false, ◌||◌}
use mathlib.Core.List.{List}
use native.Mathlib.Omega.{arith}
use lib.Dec.{eqb, leb}
use lib.ListN.{length, get_or, set, length-set}
use lib.Seq.{get_or-set_other}
use borrow.Author.Tests.{eq-eqb, ne_eqb, leb-true, leb-false}
use Rattle.lists.proofs.Tests.{two, clash, below_suc}
use Rattle.planner_dispatch.proofs.Ends.{set_there}
use Rattle.plan_index.specs.declared.PlanIndex.{PlanIndex}
use Rattle.planner_sends.specs.Clocks.{no_event, event_now}
use Rattle.planner_sends.proofs.Firsts.{First, found, missing, first_below}
use Rattle.planner_sends.specs.NextSends.{next_send_from, update_next_send, update_below}
use Rattle.planner_packing.specs.Slot.{Bus, bus, fill_by}
use Rattle.planner_combination.specs.Events.{Moment, begins_by, slot_at_by, send_slot_by, next_slot, nearer_by, event_by, sends_slot, waiting, Fits}
use Rattle.planner_combination.proofs.EventParts.{nearer_stays, nearer_moves, nearer_none}
use Rattle.planner_combination.proofs.Filling.{fill_nothing}

module _ (broadcastend u : ℕ) (pending : ℕ → Bool) (busy : List ℕ) (round : ℕ) (offset nextsend : List ℕ) (nextsend_long : length nextsend ≡ 8) where
  -- what stands for a node where it was looked at
  abbrev looked : ℕ → ℕ
  looked k = next_send_from round (get_or offset k 0) (u - 1) (pending k)

  abbrev changes : ℕ → Bool
  changes k = eqb broadcastend u || eqb (get_or busy k 0) u

  abbrev next_of : ℕ → ℕ
  next_of k = if changes k then looked k else get_or nextsend k 0

  pub record Updated (n : ℕ) (s : List ℕ) : Type 0 where
    pub below : (k : ℕ) → k < n → get_or s k 0 ≡ (if eqb broadcastend u || eqb (get_or busy k 0) u then next_send_from round (get_or offset k 0) (u - 1) (pending k) else get_or nextsend k 0)
    pub after : (k : ℕ) → n ≤ k → get_or s k 0 ≡ get_or nextsend k 0
    pub eight : length s ≡ 8

  module _ (n : ℕ) (l : n < 8) (s : List ℕ) (a : Updated n s) where
    other : (c : Bool) (k : ℕ) → (k ≡ n → ⊥) → get_or (if c then set s n (looked n) else s) k 0 ≡ get_or s k 0
    other true k d = get_or-set_other s n k (looked n) 0 d
    other false k d = refl

    own : (c : Bool) → get_or (if c then set s n (looked n) else s) n 0 ≡ (if c then looked n else get_or nextsend n 0)
    own true = set_there s n n (looked n) (omega (arith, a.eight)) refl
    own false = a.after n (omega arith)

    long : (c : Bool) → length (if c then set s n (looked n) else s) ≡ 8
    long true = length-set s n (looked n) ∙ a.eight
    long false = a.eight

    abbrev after_n : List ℕ
    after_n = if changes n then set s n (looked n) else s

    at_next : (k : ℕ) → (k < n) ⊎ (k ≡ n) → get_or after_n k 0 ≡ next_of k
    at_next k (inl m) = other (changes n) k (λ z. omega arith) ∙ a.below k m
    at_next k (inr q) = ap (λ (j : ℕ). get_or after_n j 0) q ∙ own (changes n) ∙ sym (ap next_of q)

    updated_next : Updated (suc n) (update_next_send broadcastend u pending busy round offset n s)
    unfolding update_next_send
    updated_next =
        record {
          below = λ k m. at_next k (below_suc k n m);
          after = λ k m. other (changes n) k (λ z. omega arith) ∙ a.after k (omega arith);
          eight = long (changes n);
        }

  pub updated : (n : ℕ) → n ≤ 8 → Updated n (update_below broadcastend u pending busy round offset n nextsend)
  unfolding update_below
  updated zero l = record { below = λ k m. absurd (omega arith); after = λ k m. refl; eight = nextsend_long }
  updated (suc n) l = updated_next n (omega arith) _ (updated n (omega arith))

-- the next event, where the kept array says when the slots take an item
module _ (pending : ℕ → Bool) (round : ℕ) (offset : List ℕ) (u come : ℕ) (nextsend : List ℕ) where
  nearer_same : (n least : ℕ) → least ≤ no_event → get_or nextsend n 0 ≡ next_send_from round (get_or offset n 0) u (pending n) → min least (get_or nextsend n 0) ≡ nearer_by pending round offset u n least
  unfolding next_send_from next_slot
  nearer_same n least m q = at (pending n) refl (two (leb least (next_slot round offset n u)))
    where
      at : (b : Bool) → pending n ≡ b → (leb least (next_slot round offset n u) ≡ true) ⊎ (leb least (next_slot round offset n u) ≡ false) → min least (get_or nextsend n 0) ≡ nearer_by pending round offset u n least
      at false e k =
          let d : get_or nextsend n 0 ≡ no_event = q ∙ ap (next_send_from round (get_or offset n 0) u) e in
          let z : min least (get_or nextsend n 0) ≡ least = omega (arith, d, m) in
          z ∙ none k
        where
          none : (leb least (next_slot round offset n u) ≡ true) ⊎ (leb least (next_slot round offset n u) ≡ false) → least ≡ nearer_by pending round offset u n least
          none (inl k) = nearer_stays pending round offset u n least (leb-true _ _ k)
          none (inr k) = nearer_none pending round offset u n least (leb-false _ _ k) e
      at true e (inl k) =
          let d : get_or nextsend n 0 ≡ next_slot round offset n u = q ∙ ap (next_send_from round (get_or offset n 0) u) e in
          let l : least ≤ next_slot round offset n u = leb-true _ _ k in
          let z : min least (get_or nextsend n 0) ≡ least = omega (arith, d, l) in
          z ∙ nearer_stays pending round offset u n least l
      at true e (inr k) =
          let d : get_or nextsend n 0 ≡ next_slot round offset n u = q ∙ ap (next_send_from round (get_or offset n 0) u) e in
          let l : next_slot round offset n u < least = leb-false _ _ k in
          let z : min least (get_or nextsend n 0) ≡ next_slot round offset n u = omega (arith, d, l) in
          z ∙ nearer_moves pending round offset u n least l e

  now_most : (n : ℕ) → event_now nextsend come n ≤ come
  unfolding event_now
  now_most zero = omega arith
  now_most (suc n) = let l = now_most n in omega (arith, l)

  event_below : come ≤ no_event → (n : ℕ) → ((k : ℕ) → k < n → get_or nextsend k 0 ≡ next_send_from round (get_or offset k 0) u (pending k)) → event_now nextsend come n ≡ event_by pending round offset u come n
  unfolding event_now event_by
  event_below m zero f = refl
  event_below m (suc n) f =
      let l = now_most n in
      nearer_same n (event_now nextsend come n) (omega (arith, l, m)) (f n (omega arith)) ∙ ap (nearer_by pending round offset u n) (event_below m n (λ k z. f k (omega arith)))

  event_past : come ≤ no_event → (slots d : ℕ) → ((k : ℕ) → slots ≤ k → k < slots + d → get_or nextsend k 0 ≡ no_event) → event_now nextsend come (slots + d) ≡ event_now nextsend come slots
  unfolding event_now
  event_past m slots zero f = let q : slots + 0 ≡ slots = omega arith in ap (event_now nextsend come) q
  event_past m slots (suc d) f =
      let q : slots + suc d ≡ suc (slots + d) = omega arith in
      let l = now_most (slots + d) in
      let e : get_or nextsend (slots + d) 0 ≡ no_event = f (slots + d) (omega arith) (omega arith) in
      let z : min (event_now nextsend come (slots + d)) (get_or nextsend (slots + d) 0) ≡ event_now nextsend come (slots + d) = omega (arith, l, e, m) in
      ap (event_now nextsend come) q ∙ z ∙ event_past m slots d (λ k a c. f k a (omega arith))

  pub event_same : come ≤ no_event → (slots : ℕ) → slots ≤ 8 → ((k : ℕ) → k < slots → get_or nextsend k 0 ≡ next_send_from round (get_or offset k 0) u (pending k)) → ((k : ℕ) → slots ≤ k → k < 8 → get_or nextsend k 0 ≡ no_event) →
      event_now nextsend come 8 ≡ event_by pending round offset u come slots
  event_same m slots l f g =
      let q : 8 ≡ slots + (8 - slots) = omega arith in
      ap (event_now nextsend come) q ∙ event_past m slots (8 - slots) (λ k a c. g k a (omega arith)) ∙ event_below m slots f

-- The node that sends: the one whose slot begins and that has an item pending, or none where no such slot begins.
module _ (b : PlanIndex) (f : Fits b) (unmet : List ℕ) (m : Moment) (comes : List ℕ) where
  abbrev begins : ℕ → Bool
  begins = begins_by b.round b.offset (m.u - 1)

  pub data Chosen (n : ℕ) : Type 0 where
    nobody : n ≡ b.slots → ((k : ℕ) → k < b.slots → begins_by b.round b.offset (m.u - 1) k ≡ true → waiting b unmet comes m.u k ≡ false) → Chosen n
    somebody : n < b.slots → begins_by b.round b.offset (m.u - 1) n ≡ true → Chosen n

  abbrev before : Bus
  before = bus m.slotend m.broadcastend comes m.place m.passed

  abbrev fill : ℕ → Bus
  fill n = fill_by b.processes b.conditionrow b.conditions b.decider b.node b.queuefirst b.queue b.from b.knownby unmet b.bytes b.lasts b.rooms n m.u before

  pub sends_slot_chosen : (n : ℕ) → Chosen n → (if eqb n b.slots then before else fill n) ≡ sends_slot b unmet comes m
  unfolding sends_slot send_slot_by slot_at_by waiting
  sends_slot_chosen n c = at c (first_below b.slots begins)
    where
      at : Chosen n → First b.slots begins → (if eqb n b.slots then before else fill n) ≡ sends_slot b unmet comes m
      at (nobody q h) (missing g e) = rw (eq-eqb n b.slots q) (sym (rw (eq-eqb _ b.slots e) refl))
      at (nobody q h) (found k l t e) =
          rw (eq-eqb n b.slots q)
          (sym
          (ap (λ (z : ℕ). if eqb z b.slots then before else fill z) e
          ∙ ap (λ (z : Bool). if z then before else fill k) (ne_eqb k b.slots (λ z. omega arith))
          ∙ fill_nothing b.processes b.conditionrow b.conditions b.decider b.node b.queuefirst b.queue b.from b.knownby unmet b.bytes b.lasts b.rooms f.few_conditions k m.u before (h k l t)))
      at (somebody l t) (missing g e) = clash t (g n l)
      at (somebody l t) (found k j s e) = ap (λ (z : ℕ). if eqb z b.slots then before else fill z) (f.one_begins n k (m.u - 1) l j t s ∙ sym e)
