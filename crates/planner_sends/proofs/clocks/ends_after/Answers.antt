-- `planner_sends::ends_after` meets its contract: its tests are those of the definition.
use borrow.Author.Tests.{eq-eqb, ne_eqb}
use Rattle.planner_sends.specs.Clocks.{ends_now}
use Rattle.planner_sends.proofs.clocks.ends_after.Goals as goal

pub returns-then-ends-u : goal.returns-then-ends-u
unfolding ends_now
returns-then-ends-u c = rw (eq-eqb _ _ c.if-ends-u.true) c.next_end.ensures

pub returns-else-ends-u : goal.returns-else-ends-u
unfolding ends_now
returns-else-ends-u c = rw (ne_eqb _ _ c.if-ends-u.false) c.min.ensures
