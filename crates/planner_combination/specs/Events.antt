-- The planning of one combination from event to event, in the words of the arrays: what an event does, when the next
-- one is, and where a run of events leads. The clock is the tick plus 1.
-- Assumes nothing.
use Rattle.std.specs.Prelude.{ℕ, zero, suc, ◌+◌, ◌-◌, ◌*◌, ◌≤◌, ◌<◌, ◌≡◌, ◌⊎◌, Bool, true, false, eqb, leb, get_or, replicate, if◌then◌else◌}
use mathlib.Core.List.{List, Memᴰ as In}
use Rattle.std.proofs.lemmas.List.Edits.{sets}
use Rattle.limits.specs.Limits.{TICKS, SLOTTICKS, ROUNDTICKS, LASTCLOCK}
use Rattle.lists.specs.Lists.{below, repeated}
use Rattle.log_queries.specs.Reading.{part, edges_into, Within}
use Rattle.bitset.specs.Masks.{mask_from}
use Rattle.bus_timetable.specs.Bus.{beginning_at, reciprocal_of}
use Rattle.planner_dispatch.specs.Starts.{Ends, starts_by}
use Rattle.planner_sends.specs.Clocks.{first_or, come_by}
use Rattle.log_queries.specs.Hearing.{heard_by}
use Rattle.planner_sends.specs.NextSends.{waiting_in, pending_in}
use Rattle.planner_packing.specs.Slot.{Bus, bus, fill_by}
use Rattle.plan_index.specs.declared.PlanIndex.{PlanIndex}
use Rattle.plan_index.specs.Index.{Bounded}

-- the last clock at which an event is looked at: no delay reaches it
abbrev pub last_event : ℕ
last_event = LASTCLOCK

-- Planning stands at an event. `come`: the clock at which a row is next over, as it was found at the event before.
-- `slotend` and `broadcastend`: the end of the last slot used, and of the last one with a broadcast. `run`: which
-- processes may run. `busy`, by node: the end of its last process. `comes` and `place`, by row.
-- `passed`, by node: in how many of its slots a ready item was not taken. `noted`, by condition and node: the same when
-- the value of the condition became known.
pub record Moment : Type 0 where
  pub u : ℕ
  pub come : ℕ
  pub slotend : ℕ
  pub broadcastend : ℕ
  pub run : List ℕ
  pub busy : List ℕ
  pub comes : List ℕ
  pub place : List ℕ
  pub passed : List ℕ
  pub noted : List ℕ

abbrev pub moment : ℕ → ℕ → ℕ → ℕ → List ℕ → List ℕ → List ℕ → List ℕ → List ℕ → List ℕ → Moment
moment u come slotend broadcastend run busy comes place passed noted =
    record { u = u; come = come; slotend = slotend; broadcastend = broadcastend; run = run; busy = busy; comes = comes; place = place; passed = passed; noted = noted }

-- The counts are noted for the conditions below n whose values become known at the clock; and where any does.
unfoldable pub notes_below : List ℕ → ℕ → ℕ → List ℕ → ℕ → List ℕ → List ℕ
notes_below comes u conditionrow passed zero noted = noted
notes_below comes u conditionrow passed (suc k) noted =
    let before : List ℕ = notes_below comes u conditionrow passed k noted in
    if eqb (get_or comes (conditionrow + k) 0) u then sets before (k * 8) passed else before

unfoldable pub note_by : ℕ → ℕ → List ℕ → ℕ → List ℕ → ℕ → List ℕ → List ℕ
note_by broadcastend u comes conditionrow passed conditions noted = if eqb broadcastend u then notes_below comes u conditionrow passed conditions noted else noted

-- Each free node starts, where a row is over at the clock.
unfoldable pub begun_by : ℕ → ℕ → List ℕ → List ℕ → List ℕ → List ℕ → List ℕ → List ℕ → List ℕ → List ℕ → ℕ → List ℕ → List ℕ → List ℕ → ℕ → Ends → Ends
begun_by come processes remote from knownby unmet run asany intofirst into u dispatchfirst dispatch ticks slots s =
    if eqb come u then starts_by processes remote from knownby unmet run asany intofirst into u dispatchfirst dispatch ticks slots s else s

-- the slot of a node begins at a tick; the node whose slot does, or the number of slots
unfoldable pub begins_by : ℕ → List ℕ → ℕ → ℕ → Bool
begins_by round offset tick n = eqb (beginning_at round (get_or offset n 0) tick) tick

unfoldable pub slot_at_by : ℕ → List ℕ → ℕ → ℕ → ℕ
slot_at_by round offset tick slots = first_or slots (begins_by round offset tick) (below slots)

module _ (processes conditionrow conditions : ℕ) (decider node queuefirst queue from knownby unmet bytes lasts rooms : List ℕ) where
  -- the slot that begins, if one does, takes its items
  unfoldable pub send_slot_by : ℕ → List ℕ → ℕ → ℕ → Bus → Bus
  send_slot_by round offset slots u s =
      let n : ℕ = slot_at_by round offset (u - 1) slots in
      if eqb n slots then s else fill_by processes conditionrow conditions decider node queuefirst queue from knownby unmet bytes lasts rooms n u s

-- the clock of the first beginning of a slot after the clock u
unfoldable pub next_slot : ℕ → List ℕ → ℕ → ℕ → ℕ
next_slot round offset n u = beginning_at round (get_or offset n 0) u + 1

-- that, where node n has an item pending and it is before the least so far, or else the least so far
unfoldable pub nearer_by : (ℕ → Bool) → ℕ → List ℕ → ℕ → ℕ → ℕ → ℕ
nearer_by pending round offset u n least =
    let v : ℕ = next_slot round offset n u in
    if leb least v then least else if pending n then v else least

-- the next event: `come`, or the beginning of a slot of the nodes below n
unfoldable pub event_by : (ℕ → Bool) → ℕ → List ℕ → ℕ → ℕ → ℕ → ℕ
event_by pending round offset u come zero = come
event_by pending round offset u come (suc n) = nearer_by pending round offset u n (event_by pending round offset u come n)

module _ (b : PlanIndex) (unmet : List ℕ) where
  -- the steps of an event: values heard, starts, the slot that begins, and the next event
  unfoldable pub hears : Moment → List ℕ
  hears m = heard_by m.broadcastend m.u b.processes b.from b.knownby unmet m.comes b.asany b.intofirst b.into m.run

  unfoldable pub begins_with : List ℕ → Moment → Ends
  begins_with run m =
      begun_by m.come b.processes b.remote b.from b.knownby unmet run b.asany b.intofirst b.into m.u b.dispatchfirst b.dispatch b.ticks b.slots
      (record { busy = m.busy; comes = m.comes })

  unfoldable pub sends_slot : List ℕ → Moment → Bus
  sends_slot comes m =
      send_slot_by b.processes b.conditionrow b.conditions b.decider b.node b.queuefirst b.queue b.from b.knownby unmet b.bytes b.lasts b.rooms b.round b.offset b.slots m.u
      (bus m.slotend m.broadcastend comes m.place m.passed)

  unfoldable pub waiting : List ℕ → ℕ → ℕ → Bool
  waiting comes u n = pending_in b.processes b.conditionrow b.conditions b.decider b.node b.queuefirst b.queue b.from b.knownby unmet comes u n

  -- the messages of node n that wait
  unfoldable pub messages : List ℕ → ℕ → ℕ → List ℕ
  messages comes u n = waiting_in b.processes b.conditionrow b.conditions b.decider b.node b.queuefirst b.queue b.from b.knownby unmet comes u n

  unfoldable pub notes : Moment → List ℕ
  notes m = note_by m.broadcastend m.u m.comes b.conditionrow m.passed b.conditions m.noted

  unfoldable pub moves : List ℕ → List ℕ → List ℕ → Bus → ℕ → Moment
  moves noted run busy s u =
      let come : ℕ = come_by s.slotend busy u b.slots in
      record {
        u = event_by (waiting s.comes u) b.round b.offset u come b.slots;
        come = come;
        slotend = s.slotend;
        broadcastend = s.broadcastend;
        run = run;
        busy = busy;
        comes = s.comes;
        place = s.place;
        passed = s.passed;
        noted = noted;
      }

  unfoldable pub next : Moment → Moment
  next m =
      let run : List ℕ = hears m in
      let e : Ends = begins_with run m in
      moves (notes m) run e.busy (sends_slot e.comes m) m.u

  -- events one after another, until the clock is past the last
  pub data Leads : Moment → Moment → Type 0 where
    over : (m : Moment) → last_event < m.u → Leads m m
    on : (m e : Moment) → m.u ≤ last_event → Leads (next m) e → Leads m e

  -- where planning ends: the arrays
  pub record Ended (start : Moment) (comes place passed noted : List ℕ) : Type 0 where
    pub end : Moment
    pub leads : Leads start end
    pub rows : comes ≡ end.comes
    pub places : place ≡ end.place
    pub counts : passed ≡ end.passed
    pub notes_end : noted ≡ end.noted

-- planning from a clock on: what may run is not known yet, and no slot is under way
unfoldable pub from_clock : ℕ → List ℕ → List ℕ → List ℕ → List ℕ → List ℕ → Moment
from_clock u busy comes place passed noted =
    record { u = u; come = u; slotend = 0; broadcastend = u; run = replicate 64 0; busy = busy; comes = comes; place = place; passed = passed; noted = noted }

-- what the arrays index, how large their numbers are, what they say of each other, and how the slots lie
pub record Fits (b : PlanIndex) : Type 0 where
  pub bounded : Bounded b
  pub few_processes : b.processes ≤ 64
  pub few_rows : b.conditionrow ≤ 192
  pub few_conditions : b.conditions ≤ 6
  pub few_slots : b.slots ≤ 8
  pub within_into : Within b.from b.knownby b.into
  pub within_queue : Within b.from b.knownby b.queue
  pub into_firsts : (k : ℕ) → get_or b.intofirst k 0 ≤ 128
  pub dispatch_firsts : (k : ℕ) → get_or b.dispatchfirst k 0 ≤ 128
  pub queue_firsts : (k : ℕ) → get_or b.queuefirst k 0 ≤ 128
  pub dispatch_members : (j : ℕ) → get_or b.dispatch j 0 < 64
  pub deciders : (k : ℕ) → get_or b.decider k 0 < 64
  pub ticks_small : (i : ℕ) → get_or b.ticks i 0 ≤ TICKS
  pub lasts_small : (n : ℕ) → n < b.slots → get_or b.lasts n 0 ≤ SLOTTICKS
  pub round_one : 1 ≤ b.round
  pub round_most : b.round ≤ ROUNDTICKS
  pub offset_most : (n : ℕ) → n < b.slots → get_or b.offset n 0 ≤ b.round
  pub offset_less : (n : ℕ) → n < b.slots → get_or b.offset n 0 < b.round
  pub reciprocals : b.reciprocal ≡ reciprocal_of b.round
  pub decided : (n : ℕ) → n < b.slots → get_or b.decides n 0 ≡ mask_from (λ k. eqb (get_or b.node (get_or b.decider k 0) 0) n) 0 b.conditions
  pub ticks_one : (i : ℕ) → i < b.processes → 1 ≤ get_or b.ticks i 0
  pub lasts_one : (n : ℕ) → n < b.slots → 1 ≤ get_or b.lasts n 0
  pub rows_before : b.processes ≤ b.conditionrow
  pub deciders_low : (k : ℕ) → k < b.conditions → get_or b.decider k 0 < b.processes
  -- what stands in the dispatch order of a node, in its queue and before a process; what makes a `when` known
  pub dispatch_own : (n j : ℕ) → n < b.slots → get_or b.dispatchfirst n 0 ≤ j → j < get_or b.dispatchfirst (n + 1) 0 → (get_or b.dispatch j 0 < b.processes) × (get_or b.node (get_or b.dispatch j 0) 0 ≡ n)
  pub queue_own : (n e : ℕ) → n < b.slots → In e (part b.queue (get_or b.queuefirst n 0) (get_or b.queuefirst (n + 1) 0)) →
      (get_or b.from e 0 < b.processes) × (get_or b.node (get_or b.from e 0) 0 ≡ n) × (1 ≤ get_or b.remote e 0)
  pub into_own : (i e : ℕ) → i < b.processes → In e (edges_into b.intofirst b.into i) →
      (get_or b.from e 0 < b.processes) × (get_or b.remote e 0 ≡ 0 → get_or b.node (get_or b.from e 0) 0 ≡ get_or b.node i 0) × ((n : ℕ) → get_or b.remote e 0 ≡ suc n → get_or b.node i 0 ≡ n)
  pub queue_rising : (n : ℕ) → n < b.slots → get_or b.queuefirst n 0 ≤ get_or b.queuefirst (n + 1) 0
  pub queue_once : (n : ℕ) → n < b.slots → repeated (part b.queue (get_or b.queuefirst n 0) (get_or b.queuefirst (n + 1) 0)) ≡ false
  pub remote_most : (e : ℕ) → get_or b.remote e 0 ≤ 8
  pub bytes_one : (e : ℕ) → 1 ≤ get_or b.remote e 0 → 1 ≤ get_or b.bytes e 0
  pub remote_row : (e : ℕ) → 1 ≤ get_or b.remote e 0 → b.processes + e < b.conditionrow
  pub known_rows_known : (e : ℕ) → (get_or b.knownby e 0 ≡ get_or b.from e 0) ⊎ ((k : ℕ) × (k < b.conditions) × (get_or b.knownby e 0 ≡ b.conditionrow + k))
  -- slots do not lie on each other
  pub one_begins : (n k t : ℕ) → n < b.slots → k < b.slots → begins_by b.round b.offset t n ≡ true → begins_by b.round b.offset t k ≡ true → n ≡ k
  pub slots_apart : (n k t w : ℕ) → n < b.slots → k < b.slots → begins_by b.round b.offset t n ≡ true → begins_by b.round b.offset w k ≡ true → t < w → t + get_or b.lasts n 0 ≤ w
