-- `frame_line` gives what the grammar reads: a tick, a node, and the bytes with the end of the line.
use Rattle.listing_grammar.specs.Parse.{frame_at}
use Rattle.listing_scanner.proofs.frames.frame_line.Goals as goal

pub returns-in_err-tick : goal.returns-in_err-tick
unfolding frame_at
returns-in_err-tick c = rw c.from_residual.ensures (record { within = tt; same = rw (← c.in_err-tick.ensures.same) })

pub field-requires : goal.field-requires
field-requires c = c.in_ok-tick.ensures.within

pub returns-in_err-node : goal.returns-in_err-node
unfolding frame_at
returns-in_err-node c = rw c.from_residual-in_err-node.ensures (record { within = tt; same = rw (← c.in_ok-tick.ensures.same, ← c.in_err-node.ensures.same) })

pub closed-requires : goal.closed-requires
closed-requires c = c.in_ok-node.ensures.within

pub returns-in_err-used : goal.returns-in_err-used
unfolding frame_at
returns-in_err-used c = rw c.from_residual-in_err-used.ensures (record { within = tt; same = rw (← c.in_ok-tick.ensures.same, ← c.in_ok-node.ensures.same, ← c.in_err-used.ensures.same) })

pub returns : goal.returns
unfolding frame_at
returns c = record { within = c.in_ok-used.ensures.within; same = rw (← c.in_ok-tick.ensures.same, ← c.in_ok-node.ensures.same, ← c.in_ok-used.ensures.same) }
