-- `checker_rules::row_uses_unknown` meets its contract.
use mathlib.Core.Path.{◌∙◌}
use native.Mathlib.Omega.{arith}
use borrow.Author.Tests.{eq-eqb, ne_eqb}
use Rattle.log_queries.specs.Reading.{placed_by}
use Rattle.checker_rows.specs.MetArrays.{start_by}
use Rattle.checker_rules.specs.Rules.{row_uses_unknown_by}
use Rattle.checker_rules.proofs.KnownRows.{known_rows}
use Rattle.checker_rules.proofs.unknown_values.row_uses_unknown.Goals as goal

pub returns-then-x-eq0 : goal.returns-then-x-eq0
unfolding row_uses_unknown_by placed_by
returns-then-x-eq0 c = simp (← c.comes_of-x.ensures, eq-eqb _ _ c.if-x-eq0.true)

pub overflow_sub-u : goal.overflow_sub-u
overflow_sub-u c =
    let l = c.requires.fact_3.lasts c.args.r (λ q. c.if-x-eq0.false (c.comes_of-x.ensures ∙ q)) in
    omega (arith, c.comes_of-x.ensures, c.span_of.ensures.0, l)

pub returns : goal.returns
unfolding row_uses_unknown_by placed_by start_by
returns c =
    simp (
      ← c.comes_of-x.ensures,
      ne_eqb _ _ c.if-x-eq0.false,
      ← c.span_of.ensures.0,
      ← c.conditionrow_of-first.ensures.0,
      ← c.conditions_of.ensures.0,
      c.known-mask.ensures.0 ∙ known_rows c.args.rows.now c.conditionrow_of-first.result c.conditions_of.result _ (omega (arith, c.conditionrow_of-first.ensures.1, c.conditions_of.ensures.1)),
    )
