-- `plan_layout::receiver` meets its contract.
use native.Mathlib.Omega.{arith}
use borrow.Author.Tests.{eq-eqb, ne_eqb}
use Rattle.plan_layout.proofs.line_arrays.receiver.Goals as goal

pub returns-then-sends-receives : goal.returns-then-sends-receives
returns-then-sends-receives c = rw (eq-eqb _ _ c.if-sends-receives.true)

pub overflow_add-result : goal.overflow_add-result
overflow_add-result c = omega arith

pub returns : goal.returns
returns c = rw (ne_eqb _ _ c.if-sends-receives.false) (omega arith)
