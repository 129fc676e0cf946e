-- `checker_rules::overlaps` meets its contract: the processes from j on give the whole answer.
use mathlib.Core.Path.{refl, sym, ◌∙◌}
use mathlib.Core.Bool.{Bool}
use Prim.Native.Nat.{ℕ}
use native.Mathlib.Omega.{arith}
use borrow.Author.Tests.{eq-eqb, ne_eqb}
use Rattle.plan_index.specs.Index.{laid}
use Rattle.log_rows.specs.Rows.{rows_of}
use Rattle.log_queries.specs.Reading.{placed_by}
use Rattle.checker_rows.proofs.RangeLoops.{some_next, some_found, some_none}
use Rattle.checker_rules.specs.Rules.{overlaps_by, run_at_once}
use Rattle.checker_rules.proofs.overlaps.overlaps.Goals as goal

pub returns-then-comes_of-eq0 : goal.returns-then-comes_of-eq0
unfolding overlaps_by placed_by
returns-then-comes_of-eq0 c = simp (← c.comes_of.ensures, eq-eqb _ _ c.if-comes_of-eq0.true)

pub loop-j-init : goal.loop-j-init
loop-j-init c = refl

pub together-requires : goal.together-requires
together-requires c =
    record {
      fact_1 = (c.requires.fact_1, omega (arith, c.loop-j-test.true, c.requires.fact_1), λ q. c.if-comes_of-eq0.false (c.comes_of.ensures ∙ q));
      fact_2 = c.requires.fact_2;
      fact_3 = c.requires.fact_3;
    }

pub returns-then-together : goal.returns-then-together
unfolding overlaps_by placed_by
returns-then-together c =
    let a = c.args in
    let f : ℕ → Bool = run_at_once (laid a.index.now) (rows_of a.rows.now) a.i in
    sym (rw (← c.comes_of.ensures, ne_eqb _ _ c.if-comes_of-eq0.false) (c.loop-j.invariant ∙ some_found f a.i c.loop-j.j c.loop-j-test.true (sym c.together.ensures ∙ c.if-together.true)))

pub loop-j-preserved : goal.loop-j-preserved
loop-j-preserved c =
    let a = c.args in
    let f : ℕ → Bool = run_at_once (laid a.index.now) (rows_of a.rows.now) a.i in
    c.loop-j.invariant ∙ some_next f a.i c.loop-j.j c.loop-j-test.true (sym c.together.ensures ∙ c.if-together.false)

pub returns : goal.returns
unfolding overlaps_by placed_by
returns c =
    let a = c.args in
    let f : ℕ → Bool = run_at_once (laid a.index.now) (rows_of a.rows.now) a.i in
    sym (rw (← c.comes_of.ensures, ne_eqb _ _ c.if-comes_of-eq0.false) (c.loop-j.invariant ∙ some_none f a.i c.loop-j.j c.loop-j-test.false))
