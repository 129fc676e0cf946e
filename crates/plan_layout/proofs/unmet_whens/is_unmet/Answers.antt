-- `plan_layout::is_unmet` meets its contract.
use mathlib.Core.Path.{◌≡◌, ◌∙◌}
use borrow.Author.Tests.{eq-eqb, ne_eqb}
use Rattle.plan_layout.specs.Unmet.{differs}
use Rattle.plan_layout.proofs.unmet_whens.is_unmet.Goals as goal

pub returns-then-kind-eq0 : goal.returns-then-kind-eq0
returns-then-kind-eq0 c = rw (eq-eqb _ _ c.if-kind-eq0.true)

pub returns-then-kind-eq1 : goal.returns-then-kind-eq1
returns-then-kind-eq1 c = c.differ.ensures ∙ (rw (ne_eqb _ _ c.if-kind-eq0.false, eq-eqb _ _ c.if-kind-eq1.true))

pub returns : goal.returns
returns c =
    let d : c.differ-2.result ≡ differs c.args.value 0 = c.differ-2.ensures in
    d ∙ (rw (ne_eqb _ _ c.if-kind-eq0.false, ne_eqb _ _ c.if-kind-eq1.false))
