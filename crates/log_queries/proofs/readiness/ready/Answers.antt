-- `log_queries::ready` meets its contract, for a process that counts as `all` and for one that counts as `any`.
use borrow.Author.Tests.{eq-eqb, ne_eqb}
use Rattle.log_queries.specs.Reading.{edges_into, ready_by}
use Rattle.log_queries.proofs.readiness.ready.Goals as goal

pub returns-then-asany_of-eq0 : goal.returns-then-asany_of-eq0
unfolding ready_by edges_into
returns-then-asany_of-eq0 c =
    simp (← c.asany_of.ensures, eq-eqb _ _ c.if-asany_of-eq0.true, ← c.intofirst_of-a.ensures.0, ← c.intofirst_of-b.ensures.0) c.all_delivered.ensures

pub returns : goal.returns
unfolding ready_by edges_into
returns c =
    simp (← c.asany_of.ensures, ne_eqb _ _ c.if-asany_of-eq0.false, ← c.intofirst_of-a.ensures.0, ← c.intofirst_of-b.ensures.0) c.any_delivered.ensures
