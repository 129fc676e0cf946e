-- `planner_prefix::place_of_counts` meets its contract.
use borrow.Author.Tests.{eq-eqb, ne_eqb}
use Rattle.planner_prefix.specs.Prefix.{counts_at}
use Rattle.planner_prefix.proofs.prefix.place_of_counts.Goals as goal

pub returns-then-s-eq-NEVER : goal.returns-then-s-eq-NEVER
unfolding counts_at
returns-then-s-eq-NEVER c = rw (eq-eqb _ _ c.if-s-eq-NEVER.true)

pub returns-else-s-eq-NEVER : goal.returns-else-s-eq-NEVER
unfolding counts_at
returns-else-s-eq-NEVER c = rw (ne_eqb _ _ c.if-s-eq-NEVER.false)
