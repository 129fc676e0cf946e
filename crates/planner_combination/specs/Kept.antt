-- What is kept by node from event to event, so that an event works out again only what changed, in the words of the
-- arrays: `nextsend` has the clock at which the node's slot next takes an item, `no_event` where the node has none
-- pending, and `lastarrival` the last clock at which an item arrives at it.
-- Assumes nothing.
use Rattle.std.specs.Prelude.{ℕ, suc, ◌+◌, ◌-◌, ◌≤◌, ◌<◌, ◌≡◌, ◌⊎◌, true, List, length, get_or}
use Rattle.limits.specs.Limits.{ROWS}
use Rattle.planner_dispatch.specs.Unchanged.{Idle}
use Rattle.plan_index.specs.declared.PlanIndex.{PlanIndex}
use Rattle.planner_sends.specs.Clocks.{no_event}
use Rattle.planner_sends.specs.NextSends.{next_send_from, Waiting, Roomy}
use Rattle.planner_combination.specs.Events.{Moment, begins_by, waiting, messages}

-- a clock that is past, or at which a slot ends that began before the clock u
pub data Past (b : PlanIndex) (u x : ℕ) : Type 0 where
  past : x ≤ u → Past b u x
  under_way : (n o : ℕ) → n < b.slots → begins_by b.round b.offset o n ≡ true → suc o < u → x ≡ suc o + get_or b.lasts n 0 → Past b u x

-- What is kept says the truth where planning stands at an event.
pub record Kept (b : PlanIndex) (unmet : List ℕ) (m : Moment) (lastarrival nextsend : List ℕ) : Type 0 where
  pub from_one : 1 ≤ m.u
  -- an edge that is not met goes by a condition
  pub broadcastend_apart : (e : ℕ) → (get_or unmet e 0 ≡ 0 → ⊥) → (k : ℕ) × (k < b.conditions) × (get_or b.knownby e 0 ≡ b.conditionrow + k)
  -- no row is over between the event before and this one: `come` is not before it, and where a process ends or an item
  -- arrives at it, `come` is the event
  pub come_from : m.u ≤ m.come
  pub end_over : (n : ℕ) → n < b.slots → get_or m.busy n 0 ≡ m.u → m.come ≡ m.u
  pub lastarrival_over : (n : ℕ) → n < b.slots → get_or lastarrival n 0 ≡ m.u → m.come ≡ m.u
  -- what is still to arrive arrives with the slot that was used last: a broadcast at `broadcastend`, and at each node
  -- where an item arrives at it
  pub slotend_past : Past b m.u m.slotend
  pub items : (r : ℕ) → b.processes ≤ r → (get_or m.comes r 0 ≤ m.u) ⊎ (get_or m.comes r 0 ≡ m.slotend)
  pub broadcast_with : (m.broadcastend ≤ m.u) ⊎ (m.broadcastend ≡ m.slotend)
  pub broadcast_arrivals : (n : ℕ) → n < b.slots → (m.broadcastend < m.u) ⊎ (get_or lastarrival n 0 ≡ m.broadcastend)
  pub lastarrival_with : (n : ℕ) → n < b.slots → (get_or lastarrival n 0 ≤ m.u) ⊎ (get_or lastarrival n 0 ≡ m.slotend)
  pub pending_broadcasts : (k : ℕ) → k < b.conditions → (get_or m.comes (b.conditionrow + k) 0 ≤ m.u) ⊎ (get_or m.comes (b.conditionrow + k) 0 ≡ m.broadcastend)
  pub sends : (e n : ℕ) → n < b.slots → get_or b.remote e 0 ≡ suc n → (get_or m.comes (b.processes + e) 0 ≤ m.u) ⊎ (get_or m.comes (b.processes + e) 0 ≡ get_or lastarrival n 0)
  -- of the processes of a node only the last may still run
  pub ends_last : (i : ℕ) → i < b.processes → (get_or m.comes i 0 ≤ m.u) ⊎ (get_or m.comes i 0 ≡ get_or m.busy (get_or b.node i 0) 0)
  -- a node whose last process ended before, and that is not reached at this event, has nothing to start
  pub idle : (n : ℕ) → n < b.slots → get_or m.busy n 0 < m.u → (get_or lastarrival n 0 ≡ m.u → ⊥) →
      Idle b.processes b.remote b.from b.knownby unmet m.run b.asany b.intofirst b.into m.u b.dispatchfirst b.dispatch m.comes n
  -- the slot of a node for which neither a broadcast arrives nor a process ends at this event next takes an item when
  -- `nextsend` says; past the nodes there is none
  pub next_sends : (n : ℕ) → n < b.slots → (m.broadcastend ≡ m.u → ⊥) → (get_or m.busy n 0 ≡ m.u → ⊥) →
      get_or nextsend n 0 ≡ next_send_from b.round (get_or b.offset n 0) (m.u - 1) (waiting b unmet m.comes m.u n)
  pub next_sends_past : (n : ℕ) → b.slots ≤ n → n < 8 → get_or nextsend n 0 ≡ no_event
  pub busy_long : length m.busy ≡ 8
  pub lastarrival_long : length lastarrival ≡ 8
  pub nextsend_long : length nextsend ≡ 8
  pub comes_long : length m.comes ≡ ROWS

-- The messages that wait stand in their array where planning stands at an event: those of a node for which neither a
-- broadcast arrives nor a process ends at this event.
pub record Queued (b : PlanIndex) (unmet : List ℕ) (m : Moment) (wait waitend : List ℕ) : Type 0 where
  pub roomy : Roomy wait waitend
  pub waits : (n : ℕ) → n < b.slots → (m.broadcastend ≡ m.u → ⊥) → (get_or m.busy n 0 ≡ m.u → ⊥) → Waiting b.queuefirst wait waitend n (messages b unmet m.comes m.u n)

-- What planning may begin from at a clock: an edge that is not met goes by a condition; of the processes of a node only
-- the last may end after the clock, and `busy` has its end; no item is under way.
pub record Begins (b : PlanIndex) (unmet : List ℕ) (start : ℕ) (busy comes : List ℕ) : Type 0 where
  pub broadcastend_apart : (e : ℕ) → (get_or unmet e 0 ≡ 0 → ⊥) → (k : ℕ) × (k < b.conditions) × (get_or b.knownby e 0 ≡ b.conditionrow + k)
  pub ends_last : (i : ℕ) → i < b.processes → (get_or comes i 0 ≤ start) ⊎ (get_or comes i 0 ≡ get_or busy (get_or b.node i 0) 0)
  pub items_past : (r : ℕ) → b.processes ≤ r → get_or comes r 0 ≤ start
  pub busy_long : length busy ≡ 8
