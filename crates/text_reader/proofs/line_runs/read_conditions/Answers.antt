-- `read_conditions` reads a run as the grammar does.
use borrow.Author.Rules.{rules}
use Rattle.text_reader.proofs.RunsRead.{conditions_law, ahead, run_read}
use Rattle.text_reader.proofs.line_runs.read_conditions.Goals as goal

pub read_run-count-requires-clause-forward : goal.read_run-count-requires-clause-forward
read_run-count-requires-clause-forward c i x k a = ahead conditions_law x a.1 (search rules)

pub returns : goal.returns
returns c = run_read conditions_law _ (λ t i r e. search rules) _ c.args.before c.requires (search rules) c.read_run-count.ensures
