-- `read_edges` reads a run as the grammar does.
use borrow.Author.Rules.{rules}
use Rattle.plan.specs.contracts.Edge.{the_field}
use Rattle.text_reader.proofs.RunsRead.{edges_law, array_long, ahead, run_read}
use Rattle.text_reader.proofs.line_runs.read_edges.Goals as goal

pub read_run-count-requires-clause-forward : goal.read_run-count-requires-clause-forward
read_run-count-requires-clause-forward c i x k a = ahead edges_law x a.1 (search rules)

pub returns : goal.returns
returns c = run_read edges_law _ (λ t i r e. search rules) _ c.args.before c.requires (search (rules, array_long the_field)) c.read_run-count.ensures
