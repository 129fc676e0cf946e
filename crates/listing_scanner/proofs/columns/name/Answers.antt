-- `name` gives what the grammar reads: the condition that is named next, if it is k.
use borrow.Author.Tests.{eq-eqb, ne_eqb}
use Rattle.listing_grammar.specs.Parse.{name_at}
use Rattle.listing_scanner.proofs.columns.name.Goals as goal

pub returns-then-n-k : goal.returns-then-n-k
unfolding name_at
returns-then-n-k c = let n = c.in-Some.ensures in record { within = n.within; same = rw (← n.same, eq-eqb _ _ c.if-n-k.true) }

pub returns-in-Some : goal.returns-in-Some
unfolding name_at
returns-in-Some c = record { within = tt; same = rw (← c.in-Some.ensures.same, ne_eqb _ _ c.if-n-k.false) }

pub returns-in_err-n : goal.returns-in_err-n
unfolding name_at
returns-in_err-n c = rw c.from_residual.ensures (record { within = tt; same = rw (← c.in_default.ensures.same, ← c.in_err-n.ensures.same) })

pub returns-then-n-k-2 : goal.returns-then-n-k-2
unfolding name_at
returns-then-n-k-2 c =
    let n = c.in_ok-n.ensures in
    record { within = n.within; same = rw (← c.in_default.ensures.same, ← n.same, eq-eqb _ _ c.if-n-k-2.true) }

pub returns : goal.returns
unfolding name_at
returns c = record { within = tt; same = rw (← c.in_default.ensures.same, ← c.in_ok-n.ensures.same, ne_eqb _ _ c.if-n-k-2.false) }
