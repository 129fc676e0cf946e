-- `field` gives what the grammar reads: a word and then a number.
use Rattle.text_grammar.specs.Parse.{field_at}
use Rattle.text_scanner.proofs.words.field.Goals as goal

pub returns-in_err-i : goal.returns-in_err-i
unfolding field_at
returns-in_err-i c = rw c.from_residual.ensures (record { within = tt; same = rw (← c.in_err-i.ensures.same) })

pub number_to-requires : goal.number_to-requires
number_to-requires c = c.in_ok-i.ensures.within

pub returns : goal.returns
unfolding field_at
returns c = rw (← c.in_ok-i.ensures.same) c.number_to.ensures
