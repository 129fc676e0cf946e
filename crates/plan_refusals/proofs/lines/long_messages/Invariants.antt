-- `plan_refusals::long_messages` meets its contract: what is left gives the whole answer.
use lib.ListN.{length}
use Rattle.lists.proofs.Loops.{Left}
use Rattle.model.specs.Refusals.{too_long}
use Rattle.plan.specs.Memory.{lines}
use Rattle.plan_refusals.proofs.lines.long_messages.Given as goal

abbrev pub invariant-loop-e : goal.invariant-loop-e
invariant-loop-e l = Left (too_long (lines l.p)) (length (lines l.p).edges) l.e-index
