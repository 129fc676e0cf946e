-- What the slot of a node takes as it begins, by a plan index, a log's rows and what planning keeps by node: the
-- definitions of Packing.antt and Slot.antt at their arrays.
-- Assumes nothing.
use Rattle.std.specs.Prelude.{ℕ, ◌+◌, ◌-◌, ◌≤◌, ◌<◌, ◌≡◌, Bool, eqb, get_or, set, if◌then◌else◌}
use mathlib.Core.List.{List, Memᴰ as In}
use Rattle.plan_index.specs.declared.PlanIndex.{PlanIndex}
use Rattle.log_rows.specs.Rows.{Rows, with_comes, with_place, put_comes, put_place}
use Rattle.planner_nodes.specs.Nodes.{Nodes, with_passed, with_nextsend, with_lastarrival, with_waitend, with_wait, put_lastarrival}
use Rattle.log_queries.specs.Reading.{part}
use Rattle.planner_sends.specs.Packing.{Load, load, take_all, left_of, arrive_taken, arrive_all, broadcasts_sent, with_broadcast, Listed}
use Rattle.planner_sends.specs.declared.broadcasts.Taken.{Taken}
use Rattle.planner_sends.specs.NextSends.{Roomy, next_round}
use Rattle.planner_packing.specs.Slot.{Bus, bus, fill_with, taken_in, left_with, arrive_with, SlotSent}
use Rattle.planner_packing.specs.declared.packing.Packed.{Packed}
use Rattle.planner_packing.specs.declared.packing.Sent.{Sent}
use Rattle.planner_packing.specs.declared.slot.Filled.{Filled}
use Rattle.planner_packing.specs.declared.slot.Ends.{Ends}

-- of the rows only these two arrays changed; and by node only these two, these three, these five
abbrev pub OnlyPlaced : Rows → Rows → Type 0
OnlyPlaced s s' = s' ≡ with_place s'.place (with_comes s'.comes s)

abbrev pub OnlyTaken : Nodes → Nodes → Type 0
OnlyTaken ns ns' = ns' ≡ with_lastarrival ns'.lastarrival (with_wait ns'.wait ns)

abbrev pub OnlyFilled : Nodes → Nodes → Type 0
OnlyFilled ns ns' = ns' ≡ with_passed ns'.passed (with_lastarrival ns'.lastarrival (with_wait ns'.wait ns))

abbrev pub OnlySent : Nodes → Nodes → Type 0
OnlySent ns ns' =
    ns' ≡ with_passed ns'.passed (with_nextsend ns'.nextsend (with_lastarrival ns'.lastarrival (with_waitend ns'.waitend (with_wait ns'.wait ns))))

-- the message of an edge is laid from byte `used` on, and arrives at its receiver at `end`
abbrev pub lay_row : PlanIndex → ℕ → ℕ → ℕ → Rows → Rows
lay_row b e used end s = put_place (b.processes + e) used (put_comes (b.processes + e) end s)

abbrev pub lay_node : PlanIndex → ℕ → ℕ → Nodes → Nodes
lay_node b e end ns = put_lastarrival (get_or b.remote e 0 - 1) end ns

-- what a slot has taken
abbrev pub load_of : ℕ → Bool → Rows → Load
load_of used short s = load used short s.comes s.place

-- The messages at the places from a to before z of those that wait are taken, behind what the slot took first.
pub record Takes (b : PlanIndex) (a z room end : ℕ) (first : Taken) (s : Rows) (ns : Nodes) (r : Packed) (s' : Rows) (ns' : Nodes) : Type 0 where
  pub load : load_of r.used r.short s' ≡ take_all b.processes b.bytes room end (part ns.wait a z) (load_of first.used first.short s)
  pub left : Listed ns.wait ns'.wait a r.behind (left_of b.processes b.bytes room end (part ns.wait a z) (load_of first.used first.short s))
  pub upto : r.behind ≤ z
  pub arrivals : ns'.lastarrival ≡ arrive_taken b.processes b.bytes room end b.remote (part ns.wait a z) (load_of first.used first.short s) ns.lastarrival
  pub rows_rest : OnlyPlaced s s'
  pub nodes_rest : OnlyTaken ns ns'

-- the messages that wait at node n
abbrev pub waits_at : PlanIndex → Nodes → ℕ → List ℕ
waits_at b ns n = part ns.wait (get_or b.queuefirst n 0) (get_or ns.waitend n 0)

-- What may be asked where n is a node or the number of slots: the counts are no more than the clocks so far, and the
-- messages that wait at node n go to another node and stand at the places of its queue.
pub record Sendable (b : PlanIndex) (ns : Nodes) (n u : ℕ) : Type 0 where
  pub node : n ≤ b.slots
  pub counts : (k : ℕ) → get_or ns.passed k 0 ≤ u
  pub sent : n < b.slots → (e : ℕ) → In e (waits_at b ns n) → 1 ≤ get_or b.remote e 0
  pub begins : n < b.slots → get_or b.queuefirst n 0 ≤ get_or ns.waitend n 0
  pub ends : n < b.slots → get_or ns.waitend n 0 ≤ get_or b.queuefirst (n + 1) 0
  pub roomy : Roomy ns.wait ns.waitend

-- what a slot that ends at `end` takes: its broadcasts first, then some messages that wait
module _ (b : PlanIndex) (n u end : ℕ) (s : Rows) where
  abbrev pub broadcasts_first : Load
  broadcasts_first = broadcasts_sent b.conditionrow b.conditions b.decider b.node n (get_or b.rooms n 0) u end s.comes s.place

  abbrev pub broadcasts_some : Bool
  broadcasts_some = with_broadcast b.conditionrow b.conditions b.decider b.node n (get_or b.rooms n 0) u end s.comes s.place

  abbrev pub takes : List ℕ → Load
  takes ws = take_all b.processes b.bytes (get_or b.rooms n 0) end ws broadcasts_first

  abbrev pub leaves : List ℕ → List ℕ
  leaves ws = left_of b.processes b.bytes (get_or b.rooms n 0) end ws broadcasts_first

  abbrev pub arrives : List ℕ → List ℕ → List ℕ
  arrives ws lastarrival =
      arrive_taken b.processes b.bytes (get_or b.rooms n 0) end b.remote ws broadcasts_first (if broadcasts_some then arrive_all end b.slots lastarrival else lastarrival)

-- All that the slot of node n takes.
pub record SendsAll (b : PlanIndex) (n u end : ℕ) (s : Rows) (ns : Nodes) (r : Sent) (s' : Rows) (ns' : Nodes) : Type 0 where
  pub load : load_of r.used r.short s' ≡ takes b n u end s (waits_at b ns n)
  pub broadcast : r.broadcast ≡ broadcasts_some b n u end s
  pub left : Listed ns.wait ns'.wait (get_or b.queuefirst n 0) r.behind (leaves b n u end s (waits_at b ns n))
  pub upto : r.behind ≤ get_or ns.waitend n 0
  pub arrivals : ns'.lastarrival ≡ arrives b n u end s (waits_at b ns n) ns.lastarrival
  pub rows_rest : OnlyPlaced s s'
  pub nodes_rest : OnlyTaken ns ns'

abbrev pub bus_of : Ends → Rows → Nodes → Bus
bus_of ends s ns = bus ends.slotend ends.broadcastend s.comes s.place ns.passed

-- the slot of node n, with its own end
module _ (b : PlanIndex) (n u : ℕ) where
  abbrev pub fills : List ℕ → Bus → Bus
  fills = fill_with b.processes b.conditionrow b.conditions b.decider b.node b.bytes b.lasts b.rooms n u

  abbrev pub loads : List ℕ → Rows → Load
  loads ws s = taken_in b.processes b.conditionrow b.conditions b.decider b.node b.bytes b.lasts b.rooms n u ws s.comes s.place

  abbrev pub lefts : List ℕ → Rows → List ℕ
  lefts ws s = left_with b.processes b.conditionrow b.conditions b.decider b.node b.bytes b.lasts b.rooms n u ws s.comes s.place

  abbrev pub reaches : List ℕ → Rows → List ℕ → List ℕ
  reaches ws s lastarrival =
      arrive_with b.processes b.conditionrow b.conditions b.decider b.node b.bytes b.lasts b.rooms n u b.remote b.slots ws s.comes s.place lastarrival

-- the counts by node, after a slot of node n in which a ready item was not taken, or none was not
abbrev pub counted : Bool → ℕ → List ℕ → List ℕ
counted short n passed = if short then set passed n (get_or passed n 0 + 1) else passed

-- What the slot of node n leaves.
pub record Fills (b : PlanIndex) (n u : ℕ) (ends : Ends) (s : Rows) (ns : Nodes) (r : Filled) (s' : Rows) (ns' : Nodes) : Type 0 where
  pub taken : bus r.slotend r.broadcastend s'.comes s'.place ns'.passed ≡ fills b n u (waits_at b ns n) (bus_of ends s ns)
  pub short : r.short ≡ (loads b n u (waits_at b ns n) s).short
  pub left : Listed ns.wait ns'.wait (get_or b.queuefirst n 0) r.behind (lefts b n u (waits_at b ns n) s)
  pub upto : r.behind ≤ get_or ns.waitend n 0
  pub arrivals : ns'.lastarrival ≡ reaches b n u (waits_at b ns n) s ns.lastarrival
  pub rows_rest : OnlyPlaced s s'
  pub nodes_rest : OnlyFilled ns ns'

-- The same where n is a node, and when its slot next takes an item; where n is the number of slots nothing changed.
pub record Sends (b : PlanIndex) (n u : ℕ) (ends : Ends) (s : Rows) (ns : Nodes) (r : Ends) (s' : Rows) (ns' : Nodes) : Type 0 where
  pub taken : bus_of r s' ns' ≡ (if eqb n b.slots then bus_of ends s ns else fills b n u (waits_at b ns n) (bus_of ends s ns))
  pub arrivals : ns'.lastarrival ≡ (if eqb n b.slots then ns.lastarrival else reaches b n u (waits_at b ns n) s ns.lastarrival)
  pub slot : ns'.nextsend
      ≡ (if eqb n b.slots then ns.nextsend else set ns.nextsend n (next_round b.round u (loads b n u (waits_at b ns n) s).short))
  pub waits : SlotSent b.slots n b.queuefirst (lefts b n u (waits_at b ns n) s) ns.wait ns.waitend ns'.wait ns'.waitend
  pub rows_rest : OnlyPlaced s s'
  pub nodes_rest : OnlySent ns ns'
