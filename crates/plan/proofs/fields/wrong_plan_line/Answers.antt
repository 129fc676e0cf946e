-- `plan::wrong_plan_line` meets its contract.
use mathlib.Core.Path.{sym}
use Rattle.model.specs.Refusals.{wrong_plan}
use Rattle.plan.proofs.fields.wrong_plan_line.Goals as goal

pub returns-then-is_outside : goal.returns-then-is_outside
unfolding wrong_plan
returns-then-is_outside c = rw (sym c.is_outside.ensures, c.if-is_outside.true)

pub returns-else-is_outside : goal.returns-else-is_outside
unfolding wrong_plan
returns-else-is_outside c = rw (sym c.is_outside.ensures, c.if-is_outside.false)
