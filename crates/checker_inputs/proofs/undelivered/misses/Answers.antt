-- `checker_inputs::misses` meets its contract, by the two tests that come before the last.
use borrow.Author.Tests.{eq-eqb, ne_eqb}
use Rattle.checker_inputs.specs.Inputs.{misses_by}
use Rattle.checker_inputs.proofs.undelivered.misses.Goals as goal

pub returns-then-run_of-eq0 : goal.returns-then-run_of-eq0
unfolding misses_by
returns-then-run_of-eq0 c =
    simp (← c.from_of.ensures.0, ← c.run_of.ensures, eq-eqb _ _ c.if-run_of-eq0.true)

pub returns-then-unmet_of-ne0 : goal.returns-then-unmet_of-ne0
unfolding misses_by
returns-then-unmet_of-ne0 c =
    simp (← c.from_of.ensures.0, ← c.run_of.ensures, ne_eqb _ _ c.if-run_of-eq0.false, ← c.unmet_of.ensures, ne_eqb _ _ c.if-unmet_of-ne0.true)

pub returns : goal.returns
unfolding misses_by
returns c =
    simp (← c.from_of.ensures.0, ← c.run_of.ensures, ne_eqb _ _ c.if-run_of-eq0.false, ← c.unmet_of.ensures, eq-eqb _ _ c.if-unmet_of-ne0.false, c.delivered.ensures)
