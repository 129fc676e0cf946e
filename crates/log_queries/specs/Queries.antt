-- What a log of one combination in memory says, by a plan index and the log's rows: the definitions of Reading.antt at
-- their arrays.
-- Assumes nothing.
use Rattle.std.specs.Prelude.{ℕ, Bool, List, eqb, if◌then◌else◌}
use Rattle.plan_index.specs.declared.PlanIndex.{PlanIndex}
use Rattle.log_rows.specs.Rows.{Rows}
use Rattle.log_queries.specs.Reading.{part, message_by, delivered_by, never_by, carries_by, settled_by, ready_by}
use Rattle.log_queries.specs.Reading.{runs_by, may_run_by}

-- the edges from place x to before place y of those laid out by the process that they lead into
abbrev pub edges_at : PlanIndex → ℕ → ℕ → List ℕ
edges_at b x y = part b.into x y

module _ (b : PlanIndex) (s : Rows) (u : ℕ) where
  -- the message of an edge is ready; an edge has delivered, is known never to deliver, may still carry
  abbrev pub is_sendable : ℕ → Bool
  is_sendable = message_by b.from b.knownby s.unmet s.comes u

  abbrev pub has_delivered : ℕ → Bool
  has_delivered = delivered_by b.from b.knownby s.unmet s.comes u b.processes b.remote

  abbrev pub never_delivers : ℕ → Bool
  never_delivers = never_by b.from b.knownby s.unmet s.comes u s.run

  abbrev pub may_carry : ℕ → Bool
  may_carry = carries_by b.from b.knownby s.unmet s.comes u s.run

  -- one of some edges has delivered, and each that has not is known never to
  abbrev pub settles : List ℕ → Bool
  settles = settled_by b.from b.knownby s.unmet s.comes u b.processes b.remote s.run

  -- a process is ready; may run, by what may run of the processes before
  abbrev pub is_ready : ℕ → Bool
  is_ready = ready_by b.from b.knownby s.unmet s.comes u b.processes b.remote s.run b.asany b.intofirst b.into

  abbrev pub may_run_in : ℕ → Bool
  may_run_in = runs_by b.from b.knownby s.unmet s.comes u b.asany b.intofirst b.into s.run

  -- which processes may run, by their number; and kept from one clock to the next: worked out again where a value
  -- becomes known
  abbrev pub running : List ℕ
  running = may_run_by b.from b.knownby s.unmet s.comes u b.asany b.intofirst b.into b.processes

  abbrev pub running_from : ℕ → List ℕ
  running_from broadcastend = if eqb broadcastend u then running else s.run
