-- `start` gives what the grammar reads: a number that the plan has, a column, and a tick with the end of the line.
use native.Mathlib.Omega.{arith}
use borrow.Author.Tests.{le-ltb, lt-ltb}
use Rattle.listing_grammar.specs.Parse.{start_at}
use Rattle.listing_scanner.proofs.entries.start.Goals as goal

pub returns-in_err-row : goal.returns-in_err-row
unfolding start_at
returns-in_err-row c = rw c.from_residual.ensures (record { within = tt; same = rw (← c.in_err-row.ensures.same) })

pub returns-then-processes-row : goal.returns-then-processes-row
unfolding start_at
returns-then-processes-row c = record { within = tt; same = rw (← c.in_ok-row.ensures.same, le-ltb _ _ c.if-processes-row.true) }

pub column-requires : goal.column-requires
column-requires c = (c.in_ok-row.ensures.within, omega arith)

pub returns-in_err-column : goal.returns-in_err-column
unfolding start_at
returns-in_err-column c = rw c.from_residual-in_err-column.ensures (record { within = tt; same = rw (← c.in_ok-row.ensures.same, lt-ltb _ _ c.if-processes-row.false, ← c.in_err-column.ensures.same) })

pub closed-requires : goal.closed-requires
closed-requires c = c.in_ok-column.ensures.within

pub returns-in_err-tick : goal.returns-in_err-tick
unfolding start_at
returns-in_err-tick c = rw c.from_residual-in_err-tick.ensures (record { within = tt; same = rw (← c.in_ok-row.ensures.same, lt-ltb _ _ c.if-processes-row.false, ← c.in_ok-column.ensures.same, ← c.in_err-tick.ensures.same) })

pub returns : goal.returns
unfolding start_at
returns c = record { within = c.in_ok-tick.ensures.within; same = rw (← c.in_ok-row.ensures.same, lt-ltb _ _ c.if-processes-row.false, ← c.in_ok-column.ensures.same, ← c.in_ok-tick.ensures.same) }
