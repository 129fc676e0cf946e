-- `checker_rules::together` meets its contract, by the tests that come before the last.
use mathlib.Core.Path.{◌∙◌}
use native.Mathlib.Omega.{arith}
use borrow.Author.Tests.{eq-eqb, ne_eqb, le-leb, lt-leb}
use Rattle.log_queries.specs.Reading.{placed_by}
use Rattle.checker_rows.specs.MetArrays.{start_by}
use Rattle.checker_rules.specs.Rules.{together_by}
use Rattle.checker_rules.proofs.overlaps.together.Goals as goal

pub returns-then-x-eq0 : goal.returns-then-x-eq0
unfolding together_by placed_by
returns-then-x-eq0 c = simp (← c.comes_of-x.ensures, eq-eqb _ _ c.if-x-eq0.true)

pub returns-then-node_of : goal.returns-then-node_of
unfolding together_by placed_by
returns-then-node_of c =
    simp (← c.comes_of-x.ensures, ne_eqb _ _ c.if-x-eq0.false, ← c.node_of.ensures.0, ← c.node_of-2.ensures.0, ne_eqb _ _ c.if-node_of.true)

pub overflow_sub-y : goal.overflow_sub-y
overflow_sub-y c =
    let l = c.requires.fact_3.lasts c.args.i c.requires.fact_1.2 in
    omega (arith, c.comes_of-y.ensures, c.span_of.ensures.0, l)

pub returns-then-x-y : goal.returns-then-x-y
unfolding together_by placed_by start_by
returns-then-x-y c =
    simp (← c.comes_of-x.ensures, ne_eqb _ _ c.if-x-eq0.false, ← c.node_of.ensures.0, ← c.node_of-2.ensures.0, eq-eqb _ _ c.if-node_of.false, ← c.comes_of-y.ensures, ← c.span_of.ensures.0, le-leb _ _ c.if-x-y.true)

pub overflow_sub-x : goal.overflow_sub-x
overflow_sub-x c =
    let l = c.requires.fact_3.lasts c.args.j (λ q. c.if-x-eq0.false (c.comes_of-x.ensures ∙ q)) in
    omega (arith, c.comes_of-x.ensures, c.span_of-2.ensures.0, l)

pub returns-then-y-x : goal.returns-then-y-x
unfolding together_by placed_by start_by
returns-then-y-x c =
    simp (← c.comes_of-x.ensures, ne_eqb _ _ c.if-x-eq0.false, ← c.node_of.ensures.0, ← c.node_of-2.ensures.0, eq-eqb _ _ c.if-node_of.false, ← c.comes_of-y.ensures, ← c.span_of.ensures.0, lt-leb _ _ c.if-x-y.false, ← c.span_of-2.ensures.0, le-leb _ _ c.if-y-x.true)

pub returns : goal.returns
unfolding together_by placed_by start_by
returns c =
    simp (← c.comes_of-x.ensures, ne_eqb _ _ c.if-x-eq0.false, ← c.node_of.ensures.0, ← c.node_of-2.ensures.0, eq-eqb _ _ c.if-node_of.false, ← c.comes_of-y.ensures, ← c.span_of.ensures.0, lt-leb _ _ c.if-x-y.false, ← c.span_of-2.ensures.0, lt-leb _ _ c.if-y-x.false)
