-- `plan_order::urgencies` meets its contract: before turn i the urgencies from process i on are there.
use lib.ListN.{length}
use Rattle.plan.specs.Numbers.{ticks_at, from_at, to_at}
use Rattle.plan_order.proofs.Downward.{Sofar}
use Rattle.plan_order.proofs.urgency.urgencies.Given as goal

abbrev pub invariant-loop-i : goal.invariant-loop-i
invariant-loop-i l = Sofar (ticks_at l.processes) (from_at l.edges) (to_at l.edges) (length l.edges) (length l.processes) l.urgency l.i
