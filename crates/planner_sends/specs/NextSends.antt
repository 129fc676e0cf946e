-- What is looked up by node where something changes, in the words of the arrays: `nextsend` has the clock at which the
-- node's slot next takes an item, `no_event` where the node has none pending, and `wait` the messages that are ready
-- and not sent. The clock is the tick plus 1.
-- Assumes nothing.
use Rattle.std.specs.Prelude.{ℕ, zero, suc, ◌+◌, ◌-◌, ◌≤◌, ◌<◌, ◌≡◌, Bool, true, false, ◌||◌, List, eqb, ltb, length, get_or, set, if◌then◌else◌}
use Rattle.limits.specs.Limits.{ROUNDTICKS, SLOTTICKS}
use Rattle.lists.specs.Lists.{keep}
use Rattle.model.specs.Listing.{bit}
use Rattle.plan_index.specs.declared.PlanIndex.{PlanIndex}
use Rattle.log_rows.specs.Rows.{Rows}
use Rattle.planner_nodes.specs.Nodes.{Nodes, with_nextsend, with_waitend, with_wait}
use Rattle.bitset.specs.Masks.{mask_from}
use Rattle.bus_timetable.specs.Bus.{beginning_at, reciprocal_of}
use Rattle.planner_sends.specs.Clocks.{no_event}
use Rattle.log_queries.specs.Reading.{part}
use Rattle.planner_sends.specs.Packing.{Listed, waits_by, pending_by}

-- Messages of node n stand in an array from the place of its queue on, up to where `waitend` says.
pub record Waiting (queuefirst wait waitend : List ℕ) (n : ℕ) (messages : List ℕ) : Type 0 where
  pub begins : get_or queuefirst n 0 ≤ get_or waitend n 0
  pub ends : get_or waitend n 0 ≤ get_or queuefirst (n + 1) 0
  pub holds : part wait (get_or queuefirst n 0) (get_or waitend n 0) ≡ messages

-- how long these arrays are and how large their numbers
pub record Roomy (wait waitend : List ℕ) : Type 0 where
  pub wait_long : length wait ≡ 128
  pub wait_small : (j : ℕ) → get_or wait j 0 < 128
  pub ends_long : length waitend ≡ 8

module _ (processes conditionrow conditions : ℕ) (decider node queuefirst queue from knownby unmet : List ℕ) where
  -- the messages of node n that are ready and not sent
  abbrev pub waiting_in : List ℕ → ℕ → ℕ → List ℕ
  waiting_in comes u n = keep (waits_by processes from knownby unmet comes u) (part queue (get_or queuefirst n 0) (get_or queuefirst (n + 1) 0))

  -- node n has an item that is ready and not sent
  unfoldable pub pending_in : List ℕ → ℕ → ℕ → Bool
  pending_in comes u n =
      pending_by processes conditionrow conditions decider node queue from knownby unmet comes n (get_or queuefirst n 0) (get_or queuefirst (n + 1) 0) u

-- the clock of the first beginning of a slot from a tick on, where its node has an item pending
unfoldable pub next_send_from : ℕ → ℕ → ℕ → Bool → ℕ
next_send_from round offset tick pending = if pending then beginning_at round offset tick + 1 else no_event

-- the clock a round after the clock u at which a slot begins, where it left an item
unfoldable pub next_round : ℕ → ℕ → Bool → ℕ
next_round round u left = if left then u + round else no_event

module _ (broadcastend u : ℕ) (pending : ℕ → Bool) (busy : List ℕ) (round : ℕ) (offset : List ℕ) where
  -- node n is looked up again where a broadcast arrives or its last process ends at the clock; and the nodes below n
  unfoldable pub update_next_send : ℕ → List ℕ → List ℕ
  update_next_send n nextsend = if eqb broadcastend u || eqb (get_or busy n 0) u then set nextsend n (next_send_from round (get_or offset n 0) (u - 1) (pending n)) else nextsend

  unfoldable pub update_below : ℕ → List ℕ → List ℕ
  update_below zero nextsend = nextsend
  update_below (suc n) nextsend = update_next_send n (update_below n nextsend)

  -- a number is looked up, if it is that of a node
  unfoldable pub update_in : ℕ → ℕ → List ℕ → List ℕ
  update_in slots n nextsend = if ltb n slots then update_next_send n nextsend else nextsend

  -- where no row is over at the clock, nothing is
  unfoldable pub update_by : ℕ → ℕ → List ℕ → List ℕ
  update_by come slots nextsend = if eqb come u then update_below slots nextsend else nextsend

-- Messages of node n are listed anew: they stand in the array, and nothing changed outside the places of its queue.
pub record Relisted (queuefirst : List ℕ) (n : ℕ) (messages wait waitend wait' waitend' : List ℕ) : Type 0 where
  pub end : ℕ
  pub listed : Listed wait wait' (get_or queuefirst n 0) end messages
  pub upto : end ≤ get_or queuefirst (n + 1) 0
  pub stored : waitend' ≡ set waitend n end

-- Those that wait are listed anew where a broadcast arrives or the node's last process ends at the clock; elsewhere
-- nothing changed.
pub record UpdatedNode (broadcastend u : ℕ) (busy queuefirst : List ℕ) (n : ℕ) (messages wait waitend wait' waitend' : List ℕ) : Type 0 where
  pub looked : (eqb broadcastend u || eqb (get_or busy n 0) u) ≡ true → Relisted queuefirst n messages wait waitend wait' waitend'
  pub kept : (eqb broadcastend u || eqb (get_or busy n 0) u) ≡ false → (wait' ≡ wait) × (waitend' ≡ waitend)

-- The same of all nodes: those that wait stand in the array, and of a node that is not looked up what stood there.
pub record Updated (broadcastend u : ℕ) (busy queuefirst : List ℕ) (slots : ℕ) (messages : ℕ → List ℕ) (wait waitend wait' waitend' : List ℕ) : Type 0 where
  pub roomy : Roomy wait' waitend'
  pub looked : (i : ℕ) → i < slots → (eqb broadcastend u || eqb (get_or busy i 0) u) ≡ true → Waiting queuefirst wait' waitend' i (messages i)
  pub kept : (i : ℕ) → i < slots → (eqb broadcastend u || eqb (get_or busy i 0) u) ≡ false → (ms : List ℕ) → Waiting queuefirst wait waitend i ms → Waiting queuefirst wait' waitend' i ms

-- That is so where the pending items of some node may change at the clock; where they do not, nothing changed.
pub record UpdatedAll (broadcastend u look slots : ℕ) (busy queuefirst : List ℕ) (messages : ℕ → List ℕ) (wait waitend wait' waitend' : List ℕ) : Type 0 where
  pub all : look ≡ u → Updated broadcastend u busy queuefirst slots messages wait waitend wait' waitend'
  pub none : (look ≡ u → ⊥) → (wait' ≡ wait) × (waitend' ≡ waitend)

-- The same by a plan index, a log's rows and what planning keeps by node: the messages of node n that are ready and not
-- sent, and whether it has an item that is.
module _ (b : PlanIndex) (s : Rows) (u : ℕ) where
  abbrev pub waiting_at : ℕ → List ℕ
  waiting_at =
      waiting_in b.processes b.conditionrow b.conditions b.decider b.node b.queuefirst b.queue b.from b.knownby s.unmet s.comes u

  abbrev pub pending_at : ℕ → Bool
  pending_at =
      pending_in b.processes b.conditionrow b.conditions b.decider b.node b.queuefirst b.queue b.from b.knownby s.unmet s.comes u

-- What a plan index says of rounds, slots, queues and deciders.
pub record Timed (b : PlanIndex) : Type 0 where
  pub round_one : 1 ≤ b.round
  pub round_most : b.round ≤ ROUNDTICKS
  pub reciprocals : b.reciprocal ≡ reciprocal_of b.round
  pub offset_most : (n : ℕ) → n < b.slots → get_or b.offset n 0 ≤ b.round
  pub lasts_most : (n : ℕ) → n < b.slots → get_or b.lasts n 0 ≤ SLOTTICKS
  pub queue_rising : (n : ℕ) → n < b.slots → get_or b.queuefirst n 0 ≤ get_or b.queuefirst (n + 1) 0
  pub decided : (n : ℕ) → n < b.slots → get_or b.decides n 0 ≡ mask_from (λ k. eqb (get_or b.node (get_or b.decider k 0) 0) n) 0 b.conditions

-- What may be asked where `new` is the mask of the nodes for which something is new: at the other nodes no broadcast
-- arrives and no process ends.
pub record Updatable (b : PlanIndex) (broadcastend u new : ℕ) (ns : Nodes) : Type 0 where
  pub mask : new < 256
  pub nothing_new : (n : ℕ) → n < b.slots → bit new n ≡ false → (broadcastend ≡ u → ⊥) × (get_or ns.busy n 0 ≡ u → ⊥)
  pub roomy : Roomy ns.wait ns.waitend

-- Of what is kept by node only these three arrays changed.
abbrev pub OnlyUpdated : Nodes → Nodes → Type 0
OnlyUpdated ns ns' = ns' ≡ with_nextsend ns'.nextsend (with_waitend ns'.waitend (with_wait ns'.wait ns))

-- The messages of node n that are ready and not sent are listed anew; and nothing else changed.
pub record Relists (b : PlanIndex) (s : Rows) (u n : ℕ) (ns ns' : Nodes) : Type 0 where
  pub waits : Relisted b.queuefirst n (waiting_at b s u n) ns.wait ns.waitend ns'.wait ns'.waitend
  pub rest : ns' ≡ with_waitend ns'.waitend (with_wait ns'.wait ns)

-- Node n is looked up again, where a broadcast arrives or its last process ends; and nothing else changed.
pub record UpdatesNode (b : PlanIndex) (s : Rows) (broadcastend u n : ℕ) (ns ns' : Nodes) : Type 0 where
  pub nextsend : ns'.nextsend ≡ update_next_send broadcastend u (pending_at b s u) ns.busy b.round b.offset n ns.nextsend
  pub waits : UpdatedNode broadcastend u ns.busy b.queuefirst n (waiting_at b s u n) ns.wait ns.waitend ns'.wait ns'.waitend
  pub rest : OnlyUpdated ns ns'

-- So is each node, where the pending items of some node may change at the clock.
pub record Updates (b : PlanIndex) (s : Rows) (come broadcastend u : ℕ) (ns ns' : Nodes) : Type 0 where
  pub nextsend : ns'.nextsend ≡ update_by broadcastend u (pending_at b s u) ns.busy b.round b.offset come b.slots ns.nextsend
  pub waits : UpdatedAll broadcastend u come b.slots ns.busy b.queuefirst (waiting_at b s u) ns.wait ns.waitend ns'.wait ns'.waitend
  pub rest : OnlyUpdated ns ns'
