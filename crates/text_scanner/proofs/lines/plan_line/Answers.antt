-- `plan_line` gives what the grammar reads: `byte`, `head`, and `pick` with the end of the line.
use Rattle.text_grammar.specs.Parse.{plan_at}
use Rattle.text_scanner.proofs.lines.plan_line.Goals as goal

pub returns-in_err-byte : goal.returns-in_err-byte
unfolding plan_at
returns-in_err-byte c = rw c.from_residual.ensures (record { within = tt; same = rw (← c.in_err-byte.ensures.same) })

pub field-requires-2 : goal.field-requires-2
field-requires-2 c = c.in_ok-byte.ensures.within

pub returns-in_err-head : goal.returns-in_err-head
unfolding plan_at
returns-in_err-head c = rw c.from_residual-in_err-head.ensures (record { within = tt; same = rw (← c.in_ok-byte.ensures.same, ← c.in_err-head.ensures.same) })

pub pick-requires : goal.pick-requires
pick-requires c = c.in_ok-head.ensures.within

pub returns-in_err-pick : goal.returns-in_err-pick
unfolding plan_at
returns-in_err-pick c = rw c.from_residual-in_err-pick.ensures (record { within = tt; same = rw (← c.in_ok-byte.ensures.same, ← c.in_ok-head.ensures.same, ← c.in_err-pick.ensures.same) })

pub returns : goal.returns
unfolding plan_at
returns c = record { within = c.in_ok-pick.ensures.within; same = rw (← c.in_ok-byte.ensures.same, ← c.in_ok-head.ensures.same, ← c.in_ok-pick.ensures.same) }
