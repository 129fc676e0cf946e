-- `plan_layout::known_row` meets its contract.
use borrow.Author.Tests.{eq-eqb, ne_eqb}
use Rattle.plan_layout.proofs.line_arrays.known_row.Goals as goal

pub returns-then-kind-eq0 : goal.returns-then-kind-eq0
returns-then-kind-eq0 c = rw (eq-eqb _ _ c.if-kind-eq0.true)

pub returns : goal.returns
returns c = rw (ne_eqb _ _ c.if-kind-eq0.false)
