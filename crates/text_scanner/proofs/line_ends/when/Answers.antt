-- `when` gives what the grammar reads: `always`, or else a condition that must be true, or else one that must be false.
use Rattle.text_grammar.specs.Parse.{when_at, on_at, value_at}
use Rattle.text_scanner.proofs.line_ends.when.Goals as goal

pub returns-in-Some : goal.returns-in-Some
unfolding when_at on_at value_at
returns-in-Some c = record { within = c.in-Some.ensures.within; same = rw (← c.in-Some.ensures.same) }

pub returns-in-Some-closed : goal.returns-in-Some-closed
unfolding when_at on_at value_at
returns-in-Some-closed c = record { within = c.in-Some-closed.ensures.within; same = rw (← c.in_default.ensures.same, ← c.in-Some-closed.ensures.same) }

pub returns-in_err-k : goal.returns-in_err-k
unfolding when_at on_at value_at
returns-in_err-k c =
    rw c.from_residual.ensures (record { within = tt; same = rw (← c.in_default.ensures.same, ← c.in_default-closed.ensures.same, ← c.in_err-k.ensures.same) })

pub returns : goal.returns
unfolding when_at on_at value_at
returns c =
    record { within = c.in_ok-k.ensures.within; same = rw (← c.in_default.ensures.same, ← c.in_default-closed.ensures.same, ← c.in_ok-k.ensures.same) }
