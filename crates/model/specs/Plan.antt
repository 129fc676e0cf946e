-- Document 01, "The plan text": the lines of a plan. Their printed form is in Text.antt.
-- Assumes nothing.
use Rattle.std.specs.Prelude.{ℕ, Bool, List, map, eqb, length, get_or}
use Rattle.lists.specs.Lists.{keep, below}

-- "`pick` is `urgency` or `number`"
pub data Pick : Type 0 where
  by_urgency by_number : Pick

-- "`waits` is `all`, or `any` for a conjunction process"
pub data Waits : Type 0 where
  waits_all waits_any : Waits

-- `(when always)`; `(when (true k))` is `on true k`, `(when (false k))` is `on false k`
pub data When : Type 0 where
  always : When
  on : Bool → ℕ → When

pub record Slot : Type 0 where
  pub node : ℕ
  pub bytes : ℕ

pub record Process : Type 0 where
  pub node : ℕ
  pub ticks : ℕ
  pub waits : Waits

pub record Edge : Type 0 where
  pub from : ℕ
  pub to : ℕ
  pub bytes : ℕ
  pub when : When

-- "There is one plan line". `byte` is "ticks per byte on the bus". Document 02, point 1: "The plan line gains `(head 0)`,
-- 0 to 16 bytes, after byte": `head` is what a frame has beside its data, "start of frame, control field and CRC".
pub record PlanLine : Type 0 where
  pub byte : ℕ
  pub head : ℕ
  pub pick : Pick

-- "slots stand in bus order." A condition is the process that it names.
-- "Two plans in memory are the same if the lines they stand for are."
pub record Lines : Type 0 where
  pub plan : PlanLine
  pub slots : List Slot
  pub processes : List Process
  pub conditions : List ℕ
  pub edges : List Edge

-- the same lines with another head
abbrev pub with_head : Lines → ℕ → Lines
with_head p head =
    record {
      plan = record { byte = p.plan.byte; head = head; pick = p.plan.pick };
      slots = p.slots;
      processes = p.processes;
      conditions = p.conditions;
      edges = p.edges;
    }

-- "Processes, conditions and edges are numbered from 0 in the order they stand." A number that the plan lacks has an
-- empty line.
abbrev pub process : Lines → ℕ → Process
process p i = get_or p.processes i (record { node = 0; ticks = 0; waits = waits_all })

abbrev pub edge : Lines → ℕ → Edge
edge p e = get_or p.edges e (record { from = 0; to = 0; bytes = 0; when = always })

-- the process that decides a condition
abbrev pub decider : Lines → ℕ → ℕ
decider p k = get_or p.conditions k 0

-- the numbers of processes, edges and conditions
abbrev pub processes : Lines → List ℕ
processes p = below (length p.processes)

abbrev pub edges : Lines → List ℕ
edges p = below (length p.edges)

abbrev pub conditions : Lines → List ℕ
conditions p = below (length p.conditions)

-- the edges into a process, and those out of it
abbrev pub into : Lines → ℕ → List ℕ
into p i = keep (λ e. eqb (edge p e).to i) (edges p)

abbrev pub out_of : Lines → ℕ → List ℕ
out_of p i = keep (λ e. eqb (edge p e).from i) (edges p)

-- "Edges within one node are local and use no bus."
abbrev pub local : Lines → ℕ → Bool
local p e = eqb (process p (edge p e).from).node (process p (edge p e).to).node

-- where a process runs, and all places to run: today its node, and the nodes in bus order
unfoldable pub unit : Lines → ℕ → ℕ
unit p i = (process p i).node

unfoldable pub units : Lines → List ℕ
units p = map (λ s. s.node) p.slots
