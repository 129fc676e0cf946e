-- `plan::any_twice` meets its contract: what is left gives the whole answer.
use lib.ListN.{length}
use Rattle.lists.specs.Lists.{earlier}
use Rattle.lists.proofs.Loops.{Left}
use Rattle.plan.specs.Tests.{at}
use Rattle.plan.proofs.any_tests.any_twice.Given as goal

abbrev pub invariant-loop-i : goal.invariant-loop-i
invariant-loop-i l = Left (earlier (at l.xs)) (length l.xs) l.i
