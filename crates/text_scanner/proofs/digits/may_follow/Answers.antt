-- `may_follow` is the grammar's test.
use Rattle.std.proofs.Common.{arith}
use Rattle.std.proofs.lemmas.Bool.Decides.{nat_tests}
use Rattle.text_grammar.specs.Parse.{goes_on, digit}
use Rattle.text_scanner.proofs.digits.may_follow.Goals as goal

pub returns-then-n-gt0 : goal.returns-then-n-gt0
unfolding goes_on digit
returns-then-n-gt0 c = grind (arith, nat_tests)

pub returns-else-n-gt0 : goal.returns-else-n-gt0
unfolding goes_on digit
returns-else-n-gt0 c = grind (arith, nat_tests)
