-- `edge` gives what the grammar reads: `from`, `to`, `bytes`, and `when` with the end of the line.
use Rattle.text_grammar.specs.Parse.{edge_at}
use Rattle.text_scanner.proofs.lines.edge.Goals as goal

pub returns-in_err-from : goal.returns-in_err-from
unfolding edge_at
returns-in_err-from c = rw c.from_residual.ensures (record { within = tt; same = rw (← c.in_err-from.ensures.same) })

pub field-requires-2 : goal.field-requires-2
field-requires-2 c = c.in_ok-from.ensures.within

pub returns-in_err-to : goal.returns-in_err-to
unfolding edge_at
returns-in_err-to c = rw c.from_residual-in_err-to.ensures (record { within = tt; same = rw (← c.in_ok-from.ensures.same, ← c.in_err-to.ensures.same) })

pub field-requires-3 : goal.field-requires-3
field-requires-3 c = c.in_ok-to.ensures.within

pub returns-in_err-bytes : goal.returns-in_err-bytes
unfolding edge_at
returns-in_err-bytes c = rw c.from_residual-in_err-bytes.ensures (record { within = tt; same = rw (← c.in_ok-from.ensures.same, ← c.in_ok-to.ensures.same, ← c.in_err-bytes.ensures.same) })

pub when-requires : goal.when-requires
when-requires c = c.in_ok-bytes.ensures.within

pub returns-in_err-when : goal.returns-in_err-when
unfolding edge_at
returns-in_err-when c = rw c.from_residual-in_err-when.ensures (record { within = tt; same = rw (← c.in_ok-from.ensures.same, ← c.in_ok-to.ensures.same, ← c.in_ok-bytes.ensures.same, ← c.in_err-when.ensures.same) })

pub returns : goal.returns
unfolding edge_at
returns c = record { within = c.in_ok-when.ensures.within; same = rw (← c.in_ok-from.ensures.same, ← c.in_ok-to.ensures.same, ← c.in_ok-bytes.ensures.same, ← c.in_ok-when.ensures.same) }
