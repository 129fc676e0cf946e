-- `numbered` gives what the grammar reads: a word, a number and a blank.
use Rattle.listing_grammar.specs.Parse.{numbered_at}
use Rattle.listing_scanner.proofs.entries.numbered.Goals as goal

pub returns-in_err-i : goal.returns-in_err-i
unfolding numbered_at
returns-in_err-i c = rw c.from_residual.ensures (record { within = tt; same = rw (← c.in_err-i.ensures.same) })

pub number_to-requires : goal.number_to-requires
number_to-requires c = c.in_ok-i.ensures.within

pub returns : goal.returns
unfolding numbered_at
returns c = rw (← c.in_ok-i.ensures.same) c.number_to.ensures
