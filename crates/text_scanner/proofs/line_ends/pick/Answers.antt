-- `pick` gives what the grammar reads: the word of one choice, or else of the other.
use Rattle.text_grammar.specs.Parse.{pick_at, value_at}
use Rattle.text_scanner.proofs.line_ends.pick.Goals as goal

pub returns-in-Some : goal.returns-in-Some
unfolding pick_at value_at
returns-in-Some c = record { within = c.in-Some.ensures.within; same = rw (← c.in-Some.ensures.same) }

pub returns-in_err-i : goal.returns-in_err-i
unfolding pick_at value_at
returns-in_err-i c = rw c.from_residual.ensures (record { within = tt; same = rw (← c.in_default.ensures.same, ← c.in_err-i.ensures.same) })

pub returns : goal.returns
unfolding pick_at value_at
returns c = record { within = c.in_ok-i.ensures.within; same = rw (← c.in_default.ensures.same, ← c.in_ok-i.ensures.same) }
