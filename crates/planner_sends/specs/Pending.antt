-- What a node has to send, by a plan index and a log's rows: the definitions of Packing.antt at their arrays.
-- Assumes nothing.
use Rattle.std.specs.Prelude.{ℕ, ◌≡◌, Bool, List}
use Rattle.lists.specs.Lists.{keep}
use Rattle.plan_index.specs.declared.PlanIndex.{PlanIndex}
use Rattle.log_rows.specs.Rows.{Rows, with_comes, with_place}
use Rattle.log_queries.specs.Reading.{part}
use Rattle.planner_sends.specs.Packing.{load, ready_by, broadcasts_by, waits_by, all_broadcast}
use Rattle.planner_sends.specs.declared.broadcasts.Taken.{Taken}

module _ (b : PlanIndex) (s : Rows) where
  -- the broadcast of a condition is ready and not sent
  abbrev pub ready_to_broadcast : ℕ → ℕ → Bool
  ready_to_broadcast = ready_by b.conditionrow b.decider s.comes

  -- the same, and it is one of node n
  abbrev pub waits_to_broadcast : ℕ → ℕ → ℕ → Bool
  waits_to_broadcast = broadcasts_by b.conditionrow b.decider b.node s.comes

  -- the message of an edge is ready and not sent; and which are, of the queue from place x to before place y
  abbrev pub waits_to_send : ℕ → ℕ → Bool
  waits_to_send = waits_by b.processes b.from b.knownby s.unmet s.comes

  abbrev pub waiting_of : ℕ → ℕ → ℕ → List ℕ
  waiting_of u x y = keep (waits_to_send u) (part b.queue x y)

-- The broadcasts of a mask are laid in an empty slot, as far as there is room; and nothing else changed.
pub record Broadcasts (mask conditionrow room end : ℕ) (s : Rows) (r : Taken) (s' : Rows) : Type 0 where
  pub taken : load r.used r.short s'.comes s'.place ≡ all_broadcast conditionrow room end mask s.comes s.place
  pub rest : s' ≡ with_place s'.place (with_comes s'.comes s)
