-- `waits` gives what the grammar reads: the word of one choice, or else of the other.
use Rattle.text_grammar.specs.Parse.{waits_at, value_at}
use Rattle.text_scanner.proofs.line_ends.waits.Goals as goal

pub returns-in-Some : goal.returns-in-Some
unfolding waits_at value_at
returns-in-Some c = record { within = c.in-Some.ensures.within; same = rw (← c.in-Some.ensures.same) }

pub returns-in_err-i : goal.returns-in_err-i
unfolding waits_at value_at
returns-in_err-i c = rw c.from_residual.ensures (record { within = tt; same = rw (← c.in_default.ensures.same, ← c.in_err-i.ensures.same) })

pub returns : goal.returns
unfolding waits_at value_at
returns c = record { within = c.in_ok-i.ensures.within; same = rw (← c.in_default.ensures.same, ← c.in_ok-i.ensures.same) }
