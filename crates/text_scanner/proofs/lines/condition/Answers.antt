-- `condition` gives what the grammar reads: one number between two words.
use Rattle.text_grammar.specs.Parse.{condition_at}
use Rattle.text_scanner.proofs.lines.condition.Goals as goal

pub returns : goal.returns
unfolding condition_at
returns c = c.closed.ensures
