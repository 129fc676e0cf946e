-- `plan::is_outside` meets its contract.
use borrow.Author.Tests.{lt-ltb, le-ltb}
use Rattle.model.specs.Refusals.{outside}
use Rattle.plan.proofs.fields.is_outside.Goals as goal

pub returns-then-x-lo : goal.returns-then-x-lo
unfolding outside
returns-then-x-lo c = rw (lt-ltb _ _ c.if-x-lo.true)

pub returns-else-x-lo : goal.returns-else-x-lo
unfolding outside
returns-else-x-lo c = rw (le-ltb _ _ c.if-x-lo.false)
