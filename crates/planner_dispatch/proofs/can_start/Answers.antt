-- `planner_dispatch::can_start` meets its contract.
use borrow.Author.Tests.{eq-eqb, ne_eqb}
use Rattle.planner_dispatch.specs.Starts.{can_start}
use Rattle.planner_dispatch.proofs.can_start.Goals as goal

pub returns-else-comes_of-eq0 : goal.returns-else-comes_of-eq0
unfolding can_start
returns-else-comes_of-eq0 c =
    simp (← c.comes_of.ensures, ne_eqb _ _ c.if-comes_of-eq0.false)

pub returns-then-comes_of-eq0 : goal.returns-then-comes_of-eq0
unfolding can_start
returns-then-comes_of-eq0 c =
    simp (← c.comes_of.ensures, eq-eqb _ _ c.if-comes_of-eq0.true) c.ready.ensures
