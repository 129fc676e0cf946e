-- `log_queries::delivered` meets its contract, for an edge between nodes and for a local one.
use borrow.Author.Tests.{eq-eqb, ne_eqb}
use Rattle.log_queries.specs.Reading.{came_by, delivered_by}
use Rattle.log_queries.proofs.readiness.delivered.Goals as goal

pub returns-then-remote_of-ne0 : goal.returns-then-remote_of-ne0
unfolding delivered_by came_by
returns-then-remote_of-ne0 c =
    simp (← c.remote_of.ensures.0, ne_eqb _ _ c.if-remote_of-ne0.true, ← c.processes_of.ensures.0, ← c.comes_of.ensures) c.came.ensures

pub returns : goal.returns
unfolding delivered_by
returns c =
    simp (← c.remote_of.ensures.0, eq-eqb _ _ c.if-remote_of-ne0.false) c.message_ready.ensures
