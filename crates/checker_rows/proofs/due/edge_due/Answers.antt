-- `checker_rows::edge_due` meets its contract, by its two tests.
use borrow.Author.Tests.{eq-eqb, ne_eqb}
use Rattle.checker_rows.proofs.due.edge_due.Goals as goal

pub returns-then-remote_of-eq0 : goal.returns-then-remote_of-eq0
returns-then-remote_of-eq0 c = simp (← c.remote_of.ensures.0, eq-eqb _ _ c.if-remote_of-eq0.true)

pub returns-then-unmet_of-eq0 : goal.returns-then-unmet_of-eq0
returns-then-unmet_of-eq0 c =
    simp (← c.remote_of.ensures.0, ne_eqb _ _ c.if-remote_of-eq0.false, ← c.unmet_of.ensures, eq-eqb _ _ c.if-unmet_of-eq0.true, ← c.from_of.ensures.0) c.run_of.ensures

pub returns : goal.returns
returns c =
    simp (← c.remote_of.ensures.0, ne_eqb _ _ c.if-remote_of-eq0.false, ← c.unmet_of.ensures, ne_eqb _ _ c.if-unmet_of-eq0.false)
