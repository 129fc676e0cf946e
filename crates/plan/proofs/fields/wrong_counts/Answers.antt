-- `plan::wrong_counts` meets its contract.
use mathlib.Core.Path.{sym}
use native.Mathlib.Omega.{arith}
use Rattle.std.proofs.lemmas.Bool.Decides.{nat_tests}
use Rattle.model.specs.Refusals.{outside}
use Rattle.plan.specs.Tests.{counts_test}
use Rattle.plan.proofs.TestsOnLines.{counts_same}
use Rattle.plan.proofs.fields.wrong_counts.Goals as goal

pub returns-then-p-gt-CONDITIONS : goal.returns-then-p-gt-CONDITIONS
unfolding counts_test outside
returns-then-p-gt-CONDITIONS c = rw (sym (counts_same c.args.p.now)) (grind (arith, nat_tests))

pub returns-else-p-gt-CONDITIONS : goal.returns-else-p-gt-CONDITIONS
unfolding counts_test outside
returns-else-p-gt-CONDITIONS c = rw (sym (counts_same c.args.p.now)) (grind (arith, nat_tests))
