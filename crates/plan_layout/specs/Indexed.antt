-- What a plan index says of a plan: each of its numbers and arrays in the words of the model.
-- Assumes nothing.
use Rattle.std.specs.Prelude.{◌≡◌, false, not, ◌&&◌, [], ℕ, suc, ◌+◌, ◌^◌, ◌≤◌, ◌<◌, eqb, length, get_or}
use Rattle.limits.specs.Limits.{TICKS, SLOTTICKS, ROUNDTICKS}
use Rattle.lists.specs.Lists.{keep}
use Rattle.model.specs.Plan.{Lines, process, edge, decider, local, unit}
use Rattle.model.specs.Activity.{combinations}
use Rattle.model.specs.Bus.{slot_ticks, round, slot_of, offset, rows, row_node, row_bytes}
use Rattle.model.specs.Log.{full_ticks, span}
use Rattle.model.specs.Planning.{dispatch_order, queue}
use Rattle.bitset.specs.Masks.{mask_from}
use Rattle.bus_timetable.specs.Bus.{reciprocal_of}
use Rattle.log_queries.specs.Reading.{part, Within}
use Rattle.log_queries.specs.Holding.{Holds}
use Rattle.plan_index.specs.declared.PlanIndex.{PlanIndex}
use Rattle.plan_layout.specs.Unmet.{unmet_by}

pub record Indexed (p : Lines) (b : PlanIndex) : Type 0 where
  -- how many there are of each, and where the rows of the conditions begin
  pub processes_count : b.processes ≡ length p.processes
  pub edges_count : b.edges ≡ length p.edges
  pub conditions_count : b.conditions ≡ length p.conditions
  pub slots_count : b.slots ≡ length p.slots
  pub first_condition_row : b.conditionrow ≡ b.processes + b.edges
  pub row_count : b.rows ≡ rows p
  -- the lines
  pub nodes : (i : ℕ) → get_or b.node i 0 ≡ (process p i).node
  pub lengths : (i : ℕ) → get_or b.ticks i 0 ≡ (process p i).ticks
  pub sizes_of : (e : ℕ) → get_or b.bytes e 0 ≡ (edge p e).bytes
  pub deciders : (k : ℕ) → k < length p.conditions → get_or b.decider k 0 ≡ decider p k
  -- what readiness is read off, in each combination
  pub holds : (c : ℕ) → c < 2 ^ length p.conditions →
      Holds p (get_or (combinations p) c []) b.from b.knownby (unmet_by b.kind b.condition b.edges c) b.remote b.asany b.intofirst b.into
  -- the node that an edge between nodes is sent to
  pub receivers : (e : ℕ) → e < length p.edges → local p e ≡ false → get_or b.remote e 0 ≡ suc (unit p (edge p e).to)
  pub remote_most : (e : ℕ) → get_or b.remote e 0 ≤ 8
  -- the fixed orders, by node
  pub dispatch_order_of : (n : ℕ) → n < length p.slots →
      part b.dispatch (get_or b.dispatchfirst n 0) (get_or b.dispatchfirst (n + 1) 0) ≡ keep (λ i. eqb (unit p i) n) (dispatch_order p)
  pub queue_of : (n : ℕ) → n < length p.slots →
      part b.queue (get_or b.queuefirst n 0) (get_or b.queuefirst (n + 1) 0) ≡ keep (λ e. eqb (process p (edge p e).from).node n && not (local p e)) (queue p)
  -- the bus
  pub rounds : b.round ≡ round p
  pub reciprocals : b.reciprocal ≡ reciprocal_of b.round
  pub offsets : (n : ℕ) → n < length p.slots → get_or b.offset n 0 ≡ offset p n
  pub lasts_of : (n : ℕ) → n < length p.slots → get_or b.lasts n 0 ≡ slot_ticks p (slot_of p n)
  pub rooms_of : (n : ℕ) → n < length p.slots → get_or b.rooms n 0 ≡ (slot_of p n).bytes
  -- the conditions that the processes of a node decide
  pub decided : (n : ℕ) → n < length p.slots → get_or b.decides n 0 ≡ mask_from (λ k. eqb (get_or b.node (get_or b.decider k 0) 0) n) 0 b.conditions
  -- by row
  pub spans : (r : ℕ) → r < rows p → get_or b.span r 0 ≡ span p (full_ticks p) r
  pub senders_of : (r : ℕ) → r < rows p → get_or b.sender r 0 ≡ row_node p r
  pub bytes_of : (r : ℕ) → r < rows p → get_or b.size r 0 ≡ row_bytes p r
  -- what the arrays index
  pub within : Within b.from b.knownby b.into
  pub condition_small : (e : ℕ) → get_or b.condition e 0 < 6
  pub into_firsts : (k : ℕ) → get_or b.intofirst k 0 ≤ 128
  pub dispatch_firsts : (k : ℕ) → get_or b.dispatchfirst k 0 ≤ 128
  pub queue_firsts : (k : ℕ) → get_or b.queuefirst k 0 ≤ 128
  pub into_rising : (i : ℕ) → i < length p.processes → get_or b.intofirst i 0 ≤ get_or b.intofirst (i + 1) 0
  pub dispatch_rising : (n : ℕ) → n < length p.slots → get_or b.dispatchfirst n 0 ≤ get_or b.dispatchfirst (n + 1) 0
  pub queue_rising : (n : ℕ) → n < length p.slots → get_or b.queuefirst n 0 ≤ get_or b.queuefirst (n + 1) 0
  pub dispatch_members : (j : ℕ) → get_or b.dispatch j 0 < 64
  pub queue_members : (j : ℕ) → get_or b.queue j 0 < 128
  pub node_small : (i : ℕ) → get_or b.node i 0 < 8
  pub decider_small : (k : ℕ) → get_or b.decider k 0 < 64
  pub sender_small : (r : ℕ) → get_or b.sender r 0 < 8
  -- how large the numbers are
  pub decides_small : (n : ℕ) → get_or b.decides n 0 < 64
  pub few_processes : b.processes ≤ 64
  pub few_edges : b.edges ≤ 128
  pub few_conditions : b.conditions ≤ 6
  pub few_slots : b.slots ≤ 8
  pub some_slot : 1 ≤ b.slots
  pub bytes_most : (e : ℕ) → get_or b.bytes e 0 ≤ 64
  pub size_most : (r : ℕ) → get_or b.size r 0 ≤ 64
  pub ticks_most : (i : ℕ) → get_or b.ticks i 0 ≤ TICKS
  pub ticks_one : (i : ℕ) → i < length p.processes → 1 ≤ get_or b.ticks i 0
  pub room_most : (n : ℕ) → n < length p.slots → get_or b.rooms n 0 ≤ 64
  pub lasts_most : (n : ℕ) → n < length p.slots → get_or b.lasts n 0 ≤ SLOTTICKS
  pub lasts_one : (n : ℕ) → n < length p.slots → 1 ≤ get_or b.lasts n 0
  pub round_one : 1 ≤ b.round
  pub round_most : b.round ≤ ROUNDTICKS
  pub offset_most : (n : ℕ) → n < length p.slots → get_or b.offset n 0 ≤ b.round
  pub span_most : (r : ℕ) → get_or b.span r 0 ≤ TICKS
