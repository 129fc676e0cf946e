-- `count_line` gives what the grammar reads: the node's own number, and a count with the end of the line.
use borrow.Author.Tests.{eq-eqb, ne_eqb}
use Rattle.listing_grammar.specs.Parse.{count_at}
use Rattle.listing_scanner.proofs.passed.count_line.Goals as goal

pub returns-in_err-n : goal.returns-in_err-n
unfolding count_at
returns-in_err-n c = rw c.from_residual.ensures (record { within = tt; same = rw (← c.in_err-n.ensures.same) })

pub closed-requires-then-n-node : goal.closed-requires-then-n-node
closed-requires-then-n-node c = c.in_ok-n.ensures.within

pub returns-then-n-node : goal.returns-then-n-node
unfolding count_at
returns-then-n-node c = rw (← c.in_ok-n.ensures.same, eq-eqb _ _ c.if-n-node.true) c.closed-then-n-node.ensures

pub returns : goal.returns
unfolding count_at
returns c = record { within = tt; same = rw (← c.in_ok-n.ensures.same, ne_eqb _ _ c.if-n-node.false) }
