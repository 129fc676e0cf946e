-- `item` gives what the grammar reads: a number that the plan has, a column, a tick, and a place with the end of the
-- line.
use native.Mathlib.Omega.{arith}
use borrow.Author.Tests.{le-ltb, lt-ltb}
use Rattle.listing_grammar.specs.Parse.{item_at}
use Rattle.listing_scanner.proofs.entries.item.Goals as goal

pub returns-in_err-n : goal.returns-in_err-n
unfolding item_at
returns-in_err-n c = rw c.from_residual.ensures (record { within = tt; same = rw (← c.in_err-n.ensures.same) })

pub returns-then-count-n : goal.returns-then-count-n
unfolding item_at
returns-then-count-n c = record { within = tt; same = rw (← c.in_ok-n.ensures.same, le-ltb _ _ c.if-count-n.true) }

pub column-requires : goal.column-requires
column-requires c = (c.in_ok-n.ensures.within, omega arith)

pub returns-in_err-column : goal.returns-in_err-column
unfolding item_at
returns-in_err-column c = rw c.from_residual-in_err-column.ensures (record { within = tt; same = rw (← c.in_ok-n.ensures.same, lt-ltb _ _ c.if-count-n.false, ← c.in_err-column.ensures.same) })

pub field-requires : goal.field-requires
field-requires c = c.in_ok-column.ensures.within

pub returns-in_err-tick : goal.returns-in_err-tick
unfolding item_at
returns-in_err-tick c = rw c.from_residual-in_err-tick.ensures (record { within = tt; same = rw (← c.in_ok-n.ensures.same, lt-ltb _ _ c.if-count-n.false, ← c.in_ok-column.ensures.same, ← c.in_err-tick.ensures.same) })

pub closed-requires : goal.closed-requires
closed-requires c = c.in_ok-tick.ensures.within

pub returns-in_err-place : goal.returns-in_err-place
unfolding item_at
returns-in_err-place c = rw c.from_residual-in_err-place.ensures (record { within = tt; same = rw (← c.in_ok-n.ensures.same, lt-ltb _ _ c.if-count-n.false, ← c.in_ok-column.ensures.same, ← c.in_ok-tick.ensures.same, ← c.in_err-place.ensures.same) })

pub returns : goal.returns
unfolding item_at
returns c = record { within = c.in_ok-place.ensures.within; same = rw (← c.in_ok-n.ensures.same, lt-ltb _ _ c.if-count-n.false, ← c.in_ok-column.ensures.same, ← c.in_ok-tick.ensures.same, ← c.in_ok-place.ensures.same) }
