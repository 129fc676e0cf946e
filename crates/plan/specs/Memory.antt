-- The lines of document 01 that a plan in memory stands for.
-- Assumes nothing.
use Rattle.std.specs.Prelude.{ℕ, true, false, List, map, get_or, replicate}
use Rattle.lists.specs.Lists.{below}
use Rattle.model.specs.Plan.{Lines, by_urgency, by_number, waits_all, waits_any, always, on}
use Rattle.model.specs.Plan as m
use Rattle.plan.specs.declared.Pick.{Pick}
use Rattle.plan.specs.declared.Pick.TheVariants.{Urgency, Number}
use Rattle.plan.specs.declared.Waits.{Waits}
use Rattle.plan.specs.declared.Waits.TheVariants.{All, Any}
use Rattle.plan.specs.declared.When.{When}
use Rattle.plan.specs.declared.When.TheVariants.{Always, True, False}
use Rattle.plan.specs.declared.PlanLine.{PlanLine}
use Rattle.plan.specs.declared.Slot.{Slot}
use Rattle.plan.specs.declared.Process.{Process}
use Rattle.plan.specs.declared.Edge.{Edge}
use Rattle.plan.specs.declared.Plan.{Plan}

-- what each enum and struct stands for
abbrev pub pick_of : Pick → m.Pick
pick_of Urgency = by_urgency
pick_of Number = by_number

abbrev pub waits_of : Waits → m.Waits
waits_of All = waits_all
waits_of Any = waits_any

abbrev pub when_of : When → m.When
when_of Always = always
when_of (True k) = on true k
when_of (False k) = on false k

abbrev pub line_of : PlanLine → m.PlanLine
line_of l = record { byte = l.byte; head = l.head; pick = pick_of l.pick }

abbrev pub slot_of : Slot → m.Slot
slot_of s = record { node = s.node; bytes = s.bytes }

abbrev pub process_of : Process → m.Process
process_of q = record { node = q.node; ticks = q.ticks; waits = waits_of q.waits }

abbrev pub edge_of : Edge → m.Edge
edge_of e = record { from = e.from; to = e.to; bytes = e.bytes; when = when_of e.when }

-- how a line is held in memory
abbrev pub held_waits : m.Waits → Waits
held_waits waits_all = All
held_waits waits_any = Any

abbrev pub held_when : m.When → When
held_when always = Always
held_when (on true k) = True k
held_when (on false k) = False k

abbrev pub held_slot : m.Slot → Slot
held_slot s = record { node = s.node; bytes = s.bytes }

abbrev pub held_process : m.Process → Process
held_process q = record { node = q.node; ticks = q.ticks; waits = held_waits q.waits }

abbrev pub held_edge : m.Edge → Edge
held_edge e = record { from = e.from; to = e.to; bytes = e.bytes; when = held_when e.when }

-- the lines of an array that a count names: a count above the array stands for empty lines past it
abbrev pub no_slot : Slot
no_slot = record { node = 0; bytes = 0 }

abbrev pub no_process : Process
no_process = record { node = 0; ticks = 0; waits = All }

abbrev pub no_edge : Edge
no_edge = record { from = 0; to = 0; bytes = 0; when = Always }

unfoldable pub counted : {A B : Type 0} → (A → B) → A → ℕ → List A → List B
counted f d n xs = map (λ i. f (get_or xs i d)) (below n)

unfoldable pub lines : Plan → Lines
lines p =
    record {
      plan = line_of p.line;
      slots = counted slot_of no_slot p.slots p.slot;
      processes = counted process_of no_process p.processes p.process;
      conditions = counted (λ i. i) 0 p.conditions p.condition;
      edges = counted edge_of no_edge p.edges p.edge;
    }

-- "the plan struct starting empty"
abbrev pub empty_plan : Plan
empty_plan =
    record {
      line = record { byte = 0; head = 0; pick = Urgency };
      slots = 0;
      slot = replicate 8 no_slot;
      processes = 0;
      process = replicate 64 no_process;
      conditions = 0;
      condition = replicate 6 0;
      edges = 0;
      edge = replicate 128 no_edge;
    }
