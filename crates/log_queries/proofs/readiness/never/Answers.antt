-- `log_queries::never` meets its contract, by the tests that come before the last.
use borrow.Author.Tests.{eq-eqb, ne_eqb}
use Rattle.log_queries.specs.Reading.{came_by, never_by}
use Rattle.log_queries.proofs.readiness.never.Goals as goal

pub returns-then-run_of-eq0 : goal.returns-then-run_of-eq0
unfolding never_by
returns-then-run_of-eq0 c =
    simp (← c.from_of.ensures.0, ← c.run_of.ensures, eq-eqb _ _ c.if-run_of-eq0.true)

pub returns-then-unmet_of-ne0 : goal.returns-then-unmet_of-ne0
unfolding never_by came_by
returns-then-unmet_of-ne0 c =
    simp (← c.from_of.ensures.0, ← c.run_of.ensures, ne_eqb _ _ c.if-run_of-eq0.false, ← c.unmet_of.ensures, ne_eqb _ _ c.if-unmet_of-ne0.true, ← c.knownby_of.ensures.0, ← c.comes_of.ensures) c.came.ensures

pub returns-else-unmet_of-ne0 : goal.returns-else-unmet_of-ne0
unfolding never_by
returns-else-unmet_of-ne0 c =
    simp (← c.from_of.ensures.0, ← c.run_of.ensures, ne_eqb _ _ c.if-run_of-eq0.false, ← c.unmet_of.ensures, eq-eqb _ _ c.if-unmet_of-ne0.false)
