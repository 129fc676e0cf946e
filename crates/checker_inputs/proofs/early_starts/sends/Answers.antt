-- `checker_inputs::sends` meets its contract, for a message and for a broadcast.
use borrow.Author.Tests.{lt-ltb, le-ltb}
use Rattle.checker_inputs.specs.Inputs.{sends_by}
use Rattle.checker_inputs.proofs.early_starts.sends.Goals as goal

pub returns-then-r-conditionrow : goal.returns-then-r-conditionrow
unfolding sends_by
returns-then-r-conditionrow c =
    (simp (← c.conditionrow_of-conditionrow.ensures.0, lt-ltb _ _ c.if-r-conditionrow.true, ← c.processes_of.ensures.0) c.from_of.ensures.0, c.from_of.ensures.1)

pub returns : goal.returns
unfolding sends_by
returns c =
    (simp (← c.conditionrow_of-conditionrow.ensures.0, le-ltb _ _ c.if-r-conditionrow.false) c.decider_of.ensures.0, c.decider_of.ensures.1)
