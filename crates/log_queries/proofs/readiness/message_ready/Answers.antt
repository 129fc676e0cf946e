-- `log_queries::message_ready` meets its contract, by the tests that come before the last.
use borrow.Author.Tests.{eq-eqb, ne_eqb}
use Rattle.log_queries.specs.Reading.{came_by, message_by}
use Rattle.log_queries.proofs.readiness.message_ready.Goals as goal

pub returns-then-unmet_of-ne0 : goal.returns-then-unmet_of-ne0
unfolding message_by
returns-then-unmet_of-ne0 c =
    simp (← c.unmet_of.ensures, ne_eqb _ _ c.if-unmet_of-ne0.true)

pub returns-then-came : goal.returns-then-came
unfolding message_by came_by
returns-then-came c =
    simp (← c.unmet_of.ensures, eq-eqb _ _ c.if-unmet_of-ne0.false, ← c.from_of.ensures.0, ← c.comes_of.ensures, ← c.if-came.ensures, ← c.knownby_of.ensures.0, ← c.comes_of-then-came.ensures) c.came-then-came.ensures

pub returns-else-came : goal.returns-else-came
unfolding message_by came_by
returns-else-came c =
    simp (← c.unmet_of.ensures, eq-eqb _ _ c.if-unmet_of-ne0.false, ← c.from_of.ensures.0, ← c.comes_of.ensures, ← c.if-came.ensures) c.if-came.false
