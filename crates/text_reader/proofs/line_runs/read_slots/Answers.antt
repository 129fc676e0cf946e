-- `read_slots` reads a run as the grammar does.
use borrow.Author.Rules.{rules}
use Rattle.plan.specs.contracts.Slot.{the_field}
use Rattle.text_reader.proofs.RunsRead.{slots_law, array_long, ahead, run_read}
use Rattle.text_reader.proofs.line_runs.read_slots.Goals as goal

pub read_run-count-requires-clause-forward : goal.read_run-count-requires-clause-forward
read_run-count-requires-clause-forward c i x k a = ahead slots_law x a.1 (search rules)

pub returns : goal.returns
returns c = run_read slots_law _ (λ t i r e. search rules) _ c.args.before c.requires (search (rules, array_long the_field)) c.read_run-count.ensures
