-- `plan::has_wrong_ends` meets its contract.
use native.Mathlib.Omega.{arith}
use Rattle.std.proofs.lemmas.Bool.Decides.{nat_tests}
use Rattle.model.specs.Refusals.{no_process, wrong_ends}
use Rattle.plan.proofs.TestsOnLines.{processes_length}
use Rattle.plan.proofs.fields.has_wrong_ends.Goals as goal

pub returns-then-p-wide-2 : goal.returns-then-p-wide-2
unfolding wrong_ends no_process
returns-then-p-wide-2 c = rw (processes_length c.args.p.now) (grind (arith, nat_tests))

pub returns-else-p-wide-2 : goal.returns-else-p-wide-2
unfolding wrong_ends no_process
returns-else-p-wide-2 c = rw (processes_length c.args.p.now) (grind (arith, nat_tests))
