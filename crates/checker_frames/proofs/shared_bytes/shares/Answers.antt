-- `checker_frames::shares` meets its contract: the rows from j on give the whole answer.
use mathlib.Core.Path.{sym, ◌∙◌}
use mathlib.Core.Bool.{Bool}
use Prim.Native.Nat.{ℕ}
use native.Mathlib.Omega.{arith}
use borrow.Author.Tests.{eq-eqb, ne_eqb}
use Rattle.plan_index.specs.Index.{laid}
use Rattle.log_rows.specs.Rows.{rows_of}
use Rattle.log_queries.specs.Reading.{placed_by}
use Rattle.checker_rows.specs.MetArrays.{some}
use Rattle.checker_rows.proofs.RangeLoops.{some_next, some_found, some_none}
use Rattle.checker_frames.specs.SharedBytes.{shares_by, rows_lie}
use Rattle.checker_frames.proofs.shared_bytes.shares.Goals as goal

pub returns-then-comes_of-eq0 : goal.returns-then-comes_of-eq0
unfolding shares_by placed_by
returns-then-comes_of-eq0 c = simp (← c.comes_of.ensures, eq-eqb _ _ c.if-comes_of-eq0.true)

pub passes-requires : goal.passes-requires
passes-requires c =
    (c.requires.fact_1, c.requires.fact_4.places c.args.i (λ q. c.if-comes_of-eq0.false (c.comes_of.ensures ∙ q)), c.requires.fact_2)

pub returns-then-passes : goal.returns-then-passes
unfolding shares_by placed_by
returns-then-passes c =
    simp (← c.comes_of.ensures, ne_eqb _ _ c.if-comes_of-eq0.false, sym c.passes.ensures ∙ c.if-passes.true)

pub loop-j-init : goal.loop-j-init
loop-j-init c =
    let a = c.args in
    let f : ℕ → Bool = rows_lie (laid a.index.now) (rows_of a.rows.now) a.i in
    λ k. some f (sym c.processes_of-j.ensures.0 k) a.i

pub lie-requires : goal.lie-requires
lie-requires c =
    let l = c.loop-j-test.true in
    record {
      fact_1 = (c.requires.fact_1, omega (arith, c.requires.fact_1), λ q. c.if-comes_of-eq0.false (c.comes_of.ensures ∙ q));
      fact_2 = c.requires.fact_2;
      fact_3 = c.requires.fact_3;
      fact_4 = c.requires.fact_4;
    }

pub returns-then-lie : goal.returns-then-lie
unfolding shares_by placed_by
returns-then-lie c =
    let a = c.args in
    let f : ℕ → Bool = rows_lie (laid a.index.now) (rows_of a.rows.now) a.i in
    sym (rw (← c.comes_of.ensures, ne_eqb _ _ c.if-comes_of-eq0.false, sym c.passes.ensures ∙ c.if-passes.false) (c.loop-j.invariant ∙ some_found f a.i c.loop-j.j c.loop-j-test.true (sym c.lie.ensures ∙ c.if-lie.true)))

pub loop-j-preserved : goal.loop-j-preserved
loop-j-preserved c =
    let a = c.args in
    let f : ℕ → Bool = rows_lie (laid a.index.now) (rows_of a.rows.now) a.i in
    c.loop-j.invariant ∙ some_next f a.i c.loop-j.j c.loop-j-test.true (sym c.lie.ensures ∙ c.if-lie.false)

pub returns : goal.returns
unfolding shares_by placed_by
returns c =
    let a = c.args in
    let f : ℕ → Bool = rows_lie (laid a.index.now) (rows_of a.rows.now) a.i in
    sym (rw (← c.comes_of.ensures, ne_eqb _ _ c.if-comes_of-eq0.false, sym c.passes.ensures ∙ c.if-passes.false) (c.loop-j.invariant ∙ some_none f a.i c.loop-j.j c.loop-j-test.false))
