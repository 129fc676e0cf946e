-- `planner_prefix::arrives` meets its contract.
use borrow.Author.Tests.{eq-eqb, ne_eqb}
use Rattle.planner_prefix.specs.Prefix.{arrival}
use Rattle.planner_prefix.proofs.prefix.arrives.Goals as goal

pub returns-then-x-eq0 : goal.returns-then-x-eq0
unfolding arrival
returns-then-x-eq0 c = rw (eq-eqb _ _ c.if-x-eq0.true)

pub returns-else-x-eq0 : goal.returns-else-x-eq0
unfolding arrival
returns-else-x-eq0 c = rw (ne_eqb _ _ c.if-x-eq0.false)
