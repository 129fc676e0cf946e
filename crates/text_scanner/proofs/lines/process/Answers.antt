-- `process` gives what the grammar reads: `node`, `ticks`, and `waits` with the end of the line.
use Rattle.text_grammar.specs.Parse.{process_at}
use Rattle.text_scanner.proofs.lines.process.Goals as goal

pub returns-in_err-node : goal.returns-in_err-node
unfolding process_at
returns-in_err-node c = rw c.from_residual.ensures (record { within = tt; same = rw (← c.in_err-node.ensures.same) })

pub field-requires-2 : goal.field-requires-2
field-requires-2 c = c.in_ok-node.ensures.within

pub returns-in_err-ticks : goal.returns-in_err-ticks
unfolding process_at
returns-in_err-ticks c = rw c.from_residual-in_err-ticks.ensures (record { within = tt; same = rw (← c.in_ok-node.ensures.same, ← c.in_err-ticks.ensures.same) })

pub waits-requires : goal.waits-requires
waits-requires c = c.in_ok-ticks.ensures.within

pub returns-in_err-waits : goal.returns-in_err-waits
unfolding process_at
returns-in_err-waits c = rw c.from_residual-in_err-waits.ensures (record { within = tt; same = rw (← c.in_ok-node.ensures.same, ← c.in_ok-ticks.ensures.same, ← c.in_err-waits.ensures.same) })

pub returns : goal.returns
unfolding process_at
returns c = record { within = c.in_ok-waits.ensures.within; same = rw (← c.in_ok-node.ensures.same, ← c.in_ok-ticks.ensures.same, ← c.in_ok-waits.ensures.same) }
