-- What the answers for lines stand for.
-- Assumes nothing.
use Rattle.std.specs.Prelude.{ℕ, Option}
use Rattle.model.specs.Plan as m
use Rattle.plan.specs.declared.PlanLine.{PlanLine}
use Rattle.plan.specs.declared.Slot.{Slot}
use Rattle.plan.specs.declared.Process.{Process}
use Rattle.plan.specs.declared.Edge.{Edge}
use Rattle.plan.specs.Memory.{line_of, slot_of, process_of, edge_of}
use Rattle.text_scanner.specs.Place.{Place, placed}

abbrev pub plan_line : Option (PlanLine × ℕ) → Place m.PlanLine
plan_line r = placed line_of r

abbrev pub slot : Option (Slot × ℕ) → Place m.Slot
slot r = placed slot_of r

abbrev pub process : Option (Process × ℕ) → Place m.Process
process r = placed process_of r

abbrev pub edge : Option (Edge × ℕ) → Place m.Edge
edge r = placed edge_of r
