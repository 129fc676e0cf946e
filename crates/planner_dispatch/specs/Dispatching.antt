-- The starts at one event, by a plan index, the rows of a log and what is kept by node: the definitions of Starts.antt,
-- ChangedNodes.antt and Unchanged.antt at their arrays.
-- Assumes nothing.
use Rattle.std.specs.Prelude.{ℕ, ◌≡◌, Bool, List, length}
use Rattle.limits.specs.Limits.{NODES}
use Rattle.plan_index.specs.declared.PlanIndex.{PlanIndex}
use Rattle.log_rows.specs.Rows.{Rows, with_comes}
use Rattle.planner_nodes.specs.Nodes.{Nodes, with_busy}
use Rattle.log_queries.specs.Reading.{part}
use Rattle.planner_dispatch.specs.Starts.{Ends, first_of, can_start, starts_by}
use Rattle.planner_dispatch.specs.ChangedNodes.{start_in, Soonest}
use Rattle.planner_dispatch.specs.Unchanged.{Unchanged}

module _ (b : PlanIndex) (s : Rows) where
  -- a process has not started, and it is ready
  abbrev pub can_start_in : ℕ → ℕ → Bool
  can_start_in u = can_start b.processes b.remote b.from b.knownby s.unmet s.run b.asany b.intofirst b.into u s.comes

  -- the first that can start of the processes from place x to before place y of those in dispatch order, or 64
  abbrev pub picked : ℕ → ℕ → ℕ → ℕ
  picked u x y = first_of (can_start_in u) (part b.dispatch x y)

  -- a number starts, if it is that of a node
  abbrev pub node_starts : ℕ → ℕ → Ends → Ends
  node_starts u =
      start_in b.processes b.remote b.from b.knownby s.unmet s.run b.asany b.intofirst b.into u b.dispatchfirst b.dispatch b.ticks b.slots

  abbrev pub node_started : List ℕ → ℕ → ℕ → Ends
  node_started busy u n = node_starts u n (record { busy = busy; comes = s.comes })

  -- the ends of the nodes' last processes, and the rows, as all nodes have started
  abbrev pub started : List ℕ → ℕ → Ends
  started busy u =
      starts_by b.processes b.remote b.from b.knownby s.unmet s.run b.asany b.intofirst b.into u b.dispatchfirst b.dispatch b.ticks b.slots
      (record { busy = busy; comes = s.comes })

  -- the free nodes that are not in a mask can be passed by
  abbrev pub NothingNew : List ℕ → ℕ → ℕ → Type 0
  NothingNew busy u new =
      Unchanged b.processes b.slots b.remote b.from b.knownby s.unmet s.run b.asany b.intofirst b.into b.dispatchfirst b.dispatch b.ticks
      u new busy s.comes

-- Number n has started: the rows and what is kept by node before and after it, and the end of the process that ends
-- first of those that have started.
pub record NodeStarted (b : PlanIndex) (u n : ℕ) (s : Rows) (m : Nodes) (first : ℕ) (s' : Rows) (m' : Nodes) (first' : ℕ) : Type 0 where
  pub rows : s' ≡ with_comes (node_started b s m.busy u n).comes s
  pub nodes : m' ≡ with_busy (node_started b s m.busy u n).busy m
  pub soonest : (before : List ℕ) → Soonest b.slots u before m.busy first → Soonest b.slots u before m'.busy first'

-- All nodes have started: the same.
pub record Started (b : PlanIndex) (u : ℕ) (s : Rows) (m : Nodes) (s' : Rows) (m' : Nodes) (first : ℕ) : Type 0 where
  pub rows : s' ≡ with_comes (started b s m.busy u).comes s
  pub nodes : m' ≡ with_busy (started b s m.busy u).busy m
  pub soonest : length m.busy ≡ NODES → Soonest b.slots u m.busy m'.busy first
