-- `checker_rules::uses_unknown` meets its contract: the rows from r on give the whole answer.
use mathlib.Core.Path.{sym, ◌∙◌, ap}
use mathlib.Core.Bool.{Bool}
use Prim.Native.Nat.{ℕ}
use native.Mathlib.Omega.{arith}
use Rattle.plan_index.specs.Index.{laid}
use Rattle.log_rows.specs.Rows.{rows_of}
use Rattle.checker_rows.specs.MetArrays.{some}
use Rattle.checker_rows.proofs.RangeLoops.{some_next, some_found, some_none}
use Rattle.checker_rules.specs.Rules.{uses_unknown_by, row_unknown}
use Rattle.checker_rules.proofs.unknown_values.uses_unknown.Goals as goal

pub loop-r-init : goal.loop-r-init
unfolding uses_unknown_by
loop-r-init c =
    let a = c.args in
    ap (some (row_unknown (laid a.index.now) (rows_of a.rows.now) a.column.now) 0) (sym c.rows_of-end.ensures.0)

pub row_uses_unknown-requires : goal.row_uses_unknown-requires
row_uses_unknown-requires c =
    record { fact_1 = omega (arith, c.loop-r-test.true, c.rows_of-end.ensures.1); fact_2 = c.requires.fact_1; fact_3 = c.requires.fact_2 }

pub returns-then-row_uses_unknown : goal.returns-then-row_uses_unknown
returns-then-row_uses_unknown c =
    let a = c.args in
    let f : ℕ → Bool = row_unknown (laid a.index.now) (rows_of a.rows.now) a.column.now in
    sym (c.loop-r.invariant ∙ some_found f c.rows_of-end.result c.loop-r.r c.loop-r-test.true (sym c.row_uses_unknown.ensures ∙ c.if-row_uses_unknown.true))

pub loop-r-preserved : goal.loop-r-preserved
loop-r-preserved c =
    let a = c.args in
    let f : ℕ → Bool = row_unknown (laid a.index.now) (rows_of a.rows.now) a.column.now in
    c.loop-r.invariant ∙ some_next f c.rows_of-end.result c.loop-r.r c.loop-r-test.true (sym c.row_uses_unknown.ensures ∙ c.if-row_uses_unknown.false)

pub returns : goal.returns
returns c =
    let a = c.args in
    let f : ℕ → Bool = row_unknown (laid a.index.now) (rows_of a.rows.now) a.column.now in
    sym (c.loop-r.invariant ∙ some_none f c.rows_of-end.result c.loop-r.r c.loop-r-test.false)
