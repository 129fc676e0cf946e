-- What the loops of the code rest on: the slot of a node that is nearer, what a slot leaves of the bus, and what one
-- event leaves of all.
-- Assumes nothing.
use Rattle.std.specs.Prelude.{if◌then◌else◌}
use Prim.Native.Nat.{ℕ, zero, suc, ◌+◌, ◌-◌, ◌≤◌, ◌<◌}
use mathlib.Core.Path.{◌≡◌, refl, ◌∙◌}
use mathlib.Core.Bool.{Bool, true, false}
use mathlib.Core.List.{List, [], ◌∷◌}
use native.Mathlib.Omega.{arith}
use lib.Dec.{eqb}
use lib.ListN.{length, get_or, set, length-set}
use borrow.Author.Tests.{le-leb, lt-leb}
use Rattle.bus_timetable.proofs.Beginnings.{beginning_from}
use Rattle.planner_sends.specs.Packing.{Load}
use Rattle.plan_index.specs.declared.PlanIndex.{PlanIndex}
use Rattle.planner_sends.specs.Clocks.{come_by}
use Rattle.planner_packing.specs.Slot.{Bus, bus, filled, fill_by}
use Rattle.planner_combination.specs.Events.{last_event, Moment, slot_at_by, send_slot_by, next_slot, nearer_by, event_by, hears, begins_with, sends_slot, waiting, notes, moves, next, Fits}
use Rattle.planner_combination.proofs.Ahead.{come_after, event_after}

-- the next beginning of a slot, by cases
module _ (pending : ℕ → Bool) (round : ℕ) (offset : List ℕ) (u n least : ℕ) where
  pub nearer_stays : least ≤ next_slot round offset n u → least ≡ nearer_by pending round offset u n least
  unfolding nearer_by
  nearer_stays l = rw (le-leb _ _ l)

  pub nearer_moves : next_slot round offset n u < least → pending n ≡ true → next_slot round offset n u ≡ nearer_by pending round offset u n least
  unfolding nearer_by
  nearer_moves l e = rw (lt-leb _ _ l, e)

  pub nearer_none : next_slot round offset n u < least → pending n ≡ false → least ≡ nearer_by pending round offset u n least
  unfolding nearer_by
  nearer_none l e = rw (lt-leb _ _ l, e)

-- a count that goes up by one leaves each at most one more
set_more : (xs : List ℕ) (n k v : ℕ) → v ≤ get_or xs n 0 + 1 → get_or (set xs n v) k 0 ≤ get_or xs k 0 + 1
set_more [] n k v l = omega arith
set_more (x ∷ xs) zero zero v l = l
set_more (x ∷ xs) zero (suc k) v l = omega arith
set_more (x ∷ xs) (suc n) zero v l = omega arith
set_more (x ∷ xs) (suc n) (suc k) v l = set_more xs n k v l

filled_more : (n end : ℕ) (l : Load) (t : Bool) (s : Bus) (k : ℕ) → get_or (filled n end l t s).passed k 0 ≤ get_or s.passed k 0 + 1
unfolding filled
filled_more n end l t s k = at l.short
  where
    at : (q : Bool) → get_or (if q then set s.passed n (get_or s.passed n 0 + 1) else s.passed) k 0 ≤ get_or s.passed k 0 + 1
    at true = set_more s.passed n k (get_or s.passed n 0 + 1) (omega arith)
    at false = omega arith

-- and there are as many counts as before
filled_long : (n end : ℕ) (l : Load) (t : Bool) (s : Bus) → length (filled n end l t s).passed ≡ length s.passed
unfolding filled
filled_long n end l t s = at l.short
  where
    at : (q : Bool) → length (if q then set s.passed n (get_or s.passed n 0 + 1) else s.passed) ≡ length s.passed
    at true = length-set s.passed n (get_or s.passed n 0 + 1)
    at false = refl

module _ (b : PlanIndex) (unmet : List ℕ) where
  sends_slot_more : (comes : List ℕ) (m : Moment) (k : ℕ) → get_or (sends_slot b unmet comes m).passed k 0 ≤ get_or m.passed k 0 + 1
  unfolding sends_slot send_slot_by fill_by
  sends_slot_more comes m k = at (eqb (slot_at_by b.round b.offset (m.u - 1) b.slots) b.slots)
    where
      at : (q : Bool) →
          get_or (if q then bus m.slotend m.broadcastend comes m.place m.passed else fill_by b.processes b.conditionrow b.conditions b.decider b.node b.queuefirst b.queue b.from b.knownby unmet b.bytes b.lasts b.rooms (slot_at_by b.round b.offset (m.u - 1) b.slots) m.u (bus m.slotend m.broadcastend comes m.place m.passed)).passed k 0
          ≤ get_or m.passed k 0 + 1
      at true = omega arith
      at false = filled_more _ _ _ _ (bus m.slotend m.broadcastend comes m.place m.passed) k

  sends_slot_long : (comes : List ℕ) (m : Moment) → length (sends_slot b unmet comes m).passed ≡ length m.passed
  unfolding sends_slot send_slot_by fill_by
  sends_slot_long comes m = at (eqb (slot_at_by b.round b.offset (m.u - 1) b.slots) b.slots)
    where
      at : (q : Bool) →
          length (if q then bus m.slotend m.broadcastend comes m.place m.passed else fill_by b.processes b.conditionrow b.conditions b.decider b.node b.queuefirst b.queue b.from b.knownby unmet b.bytes b.lasts b.rooms (slot_at_by b.round b.offset (m.u - 1) b.slots) m.u (bus m.slotend m.broadcastend comes m.place m.passed)).passed
          ≡ length m.passed
      at true = refl
      at false = filled_long _ _ _ _ (bus m.slotend m.broadcastend comes m.place m.passed)

  -- each event adds at most one to a count, leaves as many counts, and lies after the one before
  pub next_counts : (m : Moment) (k : ℕ) → get_or (next b unmet m).passed k 0 ≤ get_or m.passed k 0 + 1
  unfolding next moves
  next_counts m k = sends_slot_more (begins_with b unmet (hears b unmet m) m).comes m k

  pub next_long : (m : Moment) → length (next b unmet m).passed ≡ length m.passed
  unfolding next moves
  next_long m = sends_slot_long (begins_with b unmet (hears b unmet m) m).comes m

  pub next_later : Fits b → (m : Moment) → m.u ≤ last_event → m.u < (next b unmet m).u
  unfolding next moves next_slot
  next_later f m l =
      event_after _ b.round b.offset m.u _ b.slots (come_after _ _ m.u b.slots (omega arith))
      (λ k z. let q = beginning_from b.round (get_or b.offset k 0) m.u f.round_one in omega (arith, q))

  -- what the steps of an event leave is the next moment
  pub next_parts : (m : Moment) {noted run busy rows comes place passed : List ℕ} {slotend broadcastend come u : ℕ} → noted ≡ notes b unmet m → run ≡ hears b unmet m → busy ≡ (begins_with b unmet run m).busy →
      rows ≡ (begins_with b unmet run m).comes → bus slotend broadcastend comes place passed ≡ sends_slot b unmet rows m → come ≡ come_by slotend busy m.u b.slots →
      u ≡ event_by (waiting b unmet comes m.u) b.round b.offset m.u come b.slots →
      record { u = u; come = come; slotend = slotend; broadcastend = broadcastend; run = run; busy = busy; comes = comes; place = place; passed = passed; noted = noted } ≡ next b unmet m
  unfolding next moves
  next_parts m {noted} {run} {busy} {rows} {comes} {place} {passed} {slotend} {broadcastend} {come} {u} w a d e s f g =
      (λ i. record { u = g i; come = come; slotend = slotend; broadcastend = broadcastend; run = run; busy = busy; comes = comes; place = place; passed = passed; noted = noted })
      ∙ (λ i. record {
        u = event_by (waiting b unmet comes m.u) b.round b.offset m.u (f i) b.slots;
        come = f i;
        slotend = slotend;
        broadcastend = broadcastend;
        run = run;
        busy = busy;
        comes = comes;
        place = place;
        passed = passed;
        noted = noted;
      })
      ∙ (λ i. moves b unmet noted run busy (s i) m.u)
      ∙ (λ i. moves b unmet noted run (d i) (sends_slot b unmet (e i) m) m.u)
      ∙ (λ i. moves b unmet (w i) (a i) (begins_with b unmet (a i) m).busy (sends_slot b unmet (begins_with b unmet (a i) m).comes m) m.u)
