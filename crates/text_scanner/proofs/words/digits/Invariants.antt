-- `digits` gives what the grammar reads: from `i` on, after the digits of `m`, it reads what it reads from `at` on
-- after those of `n`.
use mathlib.Core.Path.{◌≡◌}
use lib.ListN.{drop}
use Rattle.text_grammar.specs.Parse.{digits_to}
use Rattle.text_scanner.proofs.words.digits.Given as goal

abbrev pub invariant-loop-i : goal.invariant-loop-i
invariant-loop-i l = digits_to l.end l.n (drop l.at l.text) ≡ digits_to l.end l.m (drop l.i l.text)
