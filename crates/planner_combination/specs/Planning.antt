-- Where planning stands by a plan index, the rows of a combination and what is kept by node: what an event and the
-- planning of a combination may begin from, and what they leave.
-- Assumes nothing.
use Rattle.std.specs.Prelude.{ℕ, ◌-◌, ◌≤◌, ◌≡◌, length, get_or, replicate, List}
use Rattle.limits.specs.Limits.{NODES, PROCESSES, EDGES, ROWS, LASTCLOCK}
use Rattle.bus_timetable.specs.Bus.{round_beginning_at, Carried}
use Rattle.plan_index.specs.declared.PlanIndex.{PlanIndex}
use Rattle.log_rows.specs.Rows.{Rows, with_comes}
use Rattle.planner_nodes.specs.Nodes.{Nodes, with_busy}
use Rattle.planner_dispatch.specs.Starts.{Ends}
use Rattle.planner_dispatch.specs.ChangedNodes.{Soonest}
use Rattle.planner_combination.specs.declared.event.Clocks.{Clocks}
use Rattle.planner_combination.specs.Events.{Moment, moment, note_by, begun_by, next, Ended, from_clock}
use Rattle.planner_combination.specs.Kept.{Kept, Queued, Begins}
use Rattle.planner_combination.specs.Ending.{Ending}

-- planning stands at the event of these clocks
abbrev pub moment_of : Clocks → Rows → Nodes → Moment
moment_of c s ns = moment c.u c.come c.slotend c.broadcastend s.run ns.busy s.comes s.place ns.passed ns.noted

-- the counts noted at a clock
abbrev pub noted_in : PlanIndex → Rows → ℕ → ℕ → Nodes → List ℕ
noted_in b s broadcastend u ns = note_by broadcastend u s.comes b.conditionrow ns.passed b.conditions ns.noted

-- the ends of the nodes' last processes, and the rows, as each free node has started, where a row is over at the clock
abbrev pub begun : PlanIndex → Rows → List ℕ → ℕ → ℕ → Ends
begun b s busy come u =
    begun_by come b.processes b.remote b.from b.knownby s.unmet s.run b.asany b.intofirst b.into u b.dispatchfirst b.dispatch b.ticks b.slots
    (record { busy = busy; comes = s.comes })

pub record Begun (b : PlanIndex) (come u : ℕ) (s : Rows) (ns : Nodes) (s' : Rows) (ns' : Nodes) (first : ℕ) : Type 0 where
  pub rows : s' ≡ with_comes (begun b s ns.busy come u).comes s
  pub nodes : ns' ≡ with_busy (begun b s ns.busy come u).busy ns
  pub soonest : length ns.busy ≡ NODES → Soonest b.slots u ns.busy ns'.busy first

-- what is kept says the truth at the event of these clocks, and it is one that planning looks at
pub record AtEvent (b : PlanIndex) (c : Clocks) (s : Rows) (ns : Nodes) : Type 0 where
  pub kept : Kept b s.unmet (moment_of c s ns) ns.lastarrival ns.nextsend
  pub ending : Ending b.slots c.u ns.busy c.ends
  pub queued : Queued b s.unmet (moment_of c s ns) ns.wait ns.waitend
  pub low : c.u ≤ LASTCLOCK
  -- the carried beginning is that of a round at or before the event's tick
  pub carried : Carried b.round c.begun (c.u - 1)
  pub counts : (k : ℕ) → get_or ns.passed k 0 ≤ c.u
  pub counts_long : length ns.passed ≡ NODES

-- after an event planning stands at the next one, and what is kept says the truth there
pub record EventDone (b : PlanIndex) (c : Clocks) (s : Rows) (ns : Nodes) (c' : Clocks) (s' : Rows) (ns' : Nodes) : Type 0 where
  pub moved : moment_of c' s' ns' ≡ next b s.unmet (moment_of c s ns)
  -- the carried beginning is that of the round that this event's tick lies in
  pub begun_now : c'.begun ≡ round_beginning_at b.round (c.u - 1)
  pub unmet : s'.unmet ≡ s.unmet
  pub kept : Kept b s.unmet (moment_of c' s' ns') ns'.lastarrival ns'.nextsend
  pub ending : Ending b.slots c'.u ns'.busy c'.ends
  pub queued : Queued b s.unmet (moment_of c' s' ns') ns'.wait ns'.waitend

-- What planning may begin from at a clock: no process is said to run, and nothing is kept by node but the ends of the
-- last processes and the counts.
pub record Plannable (b : PlanIndex) (start : ℕ) (s : Rows) (ns : Nodes) : Type 0 where
  pub begins : Begins b s.unmet start ns.busy s.comes
  pub start_one : 1 ≤ start
  pub counts : (k : ℕ) → get_or ns.passed k 0 ≤ start
  pub counts_long : length ns.passed ≡ NODES
  pub comes_long : length s.comes ≡ ROWS
  pub no_run : s.run ≡ replicate PROCESSES 0
  pub no_nextsend : ns.nextsend ≡ replicate NODES 0
  pub no_arrival : ns.lastarrival ≡ replicate NODES 0
  pub no_waitend : ns.waitend ≡ replicate NODES 0
  pub no_wait : ns.wait ≡ replicate EDGES 0

-- the events from a clock on, until none is left, lead from these rows and nodes to those
abbrev pub Planned : PlanIndex → ℕ → Rows → Nodes → Rows → Nodes → Type 0
Planned b start s ns s' ns' =
    Ended b s.unmet (from_clock start ns.busy s.comes s.place ns.passed ns.noted) s'.comes s'.place ns'.passed ns'.noted
