-- `closed` gives what the grammar reads: a word, a number, and a word.
use Rattle.text_grammar.specs.Parse.{closed_at}
use Rattle.text_scanner.proofs.words.closed.Goals as goal

pub returns-in_err-n : goal.returns-in_err-n
unfolding closed_at
returns-in_err-n c = rw c.from_residual.ensures (record { within = tt; same = rw (← c.in_err-n.ensures.same) })

pub returns-in_err-j : goal.returns-in_err-j
unfolding closed_at
returns-in_err-j c = rw c.from_residual-in_err-j.ensures (record { within = tt; same = rw (← c.in_ok-n.ensures.same, ← c.in_err-j.ensures.same) })

pub returns : goal.returns
unfolding closed_at
returns c = record { within = c.in_ok-j.ensures.within; same = rw (← c.in_ok-n.ensures.same, ← c.in_ok-j.ensures.same) }
