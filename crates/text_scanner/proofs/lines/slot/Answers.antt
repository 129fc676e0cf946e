-- `slot` gives what the grammar reads: `node`, and `bytes` with the end of the line.
use Rattle.text_grammar.specs.Parse.{slot_at}
use Rattle.text_scanner.proofs.lines.slot.Goals as goal

pub returns-in_err-node : goal.returns-in_err-node
unfolding slot_at
returns-in_err-node c = rw c.from_residual.ensures (record { within = tt; same = rw (← c.in_err-node.ensures.same) })

pub closed-requires : goal.closed-requires
closed-requires c = c.in_ok-node.ensures.within

pub returns-in_err-bytes : goal.returns-in_err-bytes
unfolding slot_at
returns-in_err-bytes c = rw c.from_residual-in_err-bytes.ensures (record { within = tt; same = rw (← c.in_ok-node.ensures.same, ← c.in_err-bytes.ensures.same) })

pub returns : goal.returns
unfolding slot_at
returns c = record { within = c.in_ok-bytes.ensures.within; same = rw (← c.in_ok-node.ensures.same, ← c.in_ok-bytes.ensures.same) }
