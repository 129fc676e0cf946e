-- `checker_inputs::too_early` meets its contract: the rows from r on give the whole answer.
use mathlib.Core.Path.{sym, ap, ◌∙◌}
use mathlib.Core.Bool.{Bool}
use Prim.Native.Nat.{ℕ}
use native.Mathlib.Omega.{arith}
use Rattle.plan_index.specs.Index.{laid}
use Rattle.log_rows.specs.Rows.{rows_of}
use Rattle.checker_rows.specs.MetArrays.{some}
use Rattle.checker_rows.proofs.RangeLoops.{some_next, some_found, some_none}
use Rattle.checker_inputs.specs.Inputs.{too_early_by, row_early_in}
use Rattle.checker_inputs.proofs.early_starts.too_early.Goals as goal

pub loop-r-init : goal.loop-r-init
unfolding too_early_by
loop-r-init c =
    let a = c.args in
    ap (some (row_early_in (laid a.index.now) (rows_of a.rows.now)) 0) (sym c.rows_of-end.ensures.0)

pub row_early-requires : goal.row_early-requires
row_early-requires c =
    let p = c.requires in
    record { fact_1 = (omega (arith, c.loop-r-test.true, c.rows_of-end.ensures.0), p.fact_1.0, p.fact_1.1); fact_2 = p.fact_2 }

pub returns-then-row_early : goal.returns-then-row_early
returns-then-row_early c =
    let a = c.args in
    let f : ℕ → Bool = row_early_in (laid a.index.now) (rows_of a.rows.now) in
    sym (c.loop-r.invariant ∙ some_found f c.rows_of-end.result c.loop-r.r c.loop-r-test.true (sym c.row_early.ensures ∙ c.if-row_early.true))

pub loop-r-preserved : goal.loop-r-preserved
loop-r-preserved c =
    let a = c.args in
    let f : ℕ → Bool = row_early_in (laid a.index.now) (rows_of a.rows.now) in
    c.loop-r.invariant ∙ some_next f c.rows_of-end.result c.loop-r.r c.loop-r-test.true (sym c.row_early.ensures ∙ c.if-row_early.false)

pub returns : goal.returns
returns c =
    let a = c.args in
    let f : ℕ → Bool = row_early_in (laid a.index.now) (rows_of a.rows.now) in
    sym (c.loop-r.invariant ∙ some_none f c.rows_of-end.result c.loop-r.r c.loop-r-test.false)
