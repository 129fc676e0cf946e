-- `entry_line` gives what the grammar reads: a start, or else a send, or else a tell.
use Rattle.listing_grammar.specs.Parse.{entry_at}
use Rattle.listing_scanner.proofs.entries.entry_line.Goals as goal

pub returns-in-Some : goal.returns-in-Some
unfolding entry_at
returns-in-Some c = let start = c.in-Some.ensures in record { within = start.within; same = rw (← start.same) }

pub returns-in-Some-item : goal.returns-in-Some-item
unfolding entry_at
returns-in-Some-item c =
    let send = c.in-Some-item.ensures in
    record { within = send.within; same = rw (← c.in_default.ensures.same, ← send.same) }

pub returns : goal.returns
unfolding entry_at
returns c =
    let tell = c.item-2.ensures in
    record { within = tell.within; same = rw (← c.in_default.ensures.same, ← c.in_default-item.ensures.same) tell.same }
