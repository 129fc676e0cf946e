-- `checker_rules::off_slot` meets its contract: the rows from r on give the whole answer.
use mathlib.Core.Path.{sym, ◌∙◌}
use mathlib.Core.Bool.{Bool}
use Prim.Native.Nat.{ℕ}
use native.Mathlib.Omega.{arith}
use Rattle.plan_index.specs.Index.{laid}
use Rattle.log_rows.specs.Rows.{rows_of}
use Rattle.checker_rows.specs.MetArrays.{some}
use Rattle.checker_rows.proofs.RangeLoops.{some_next, some_found, some_none}
use Rattle.checker_rules.specs.Rules.{off_slot_by, row_off}
use Rattle.checker_rules.proofs.slot_beginnings.off_slot.Goals as goal

pub loop-r-init : goal.loop-r-init
unfolding off_slot_by
loop-r-init c =
    let a = c.args in
    λ k. some (row_off (laid a.index.now) (rows_of a.rows.now)) (sym c.processes_of-r.ensures.0 k) (sym c.rows_of-end.ensures.0 k)

pub off-requires : goal.off-requires
off-requires c =
    record { fact_1 = omega (arith, c.loop-r-test.true, c.rows_of-end.ensures.1); fact_2 = c.requires.fact_1; fact_3 = c.requires.fact_2; fact_4 = c.requires.fact_3 }

pub returns-then-off : goal.returns-then-off
returns-then-off c =
    let a = c.args in
    let f : ℕ → Bool = row_off (laid a.index.now) (rows_of a.rows.now) in
    sym (c.loop-r.invariant ∙ some_found f c.rows_of-end.result c.loop-r.r c.loop-r-test.true (sym c.off.ensures ∙ c.if-off.true))

pub loop-r-preserved : goal.loop-r-preserved
loop-r-preserved c =
    let a = c.args in
    let f : ℕ → Bool = row_off (laid a.index.now) (rows_of a.rows.now) in
    c.loop-r.invariant ∙ some_next f c.rows_of-end.result c.loop-r.r c.loop-r-test.true (sym c.off.ensures ∙ c.if-off.false)

pub returns : goal.returns
returns c =
    let a = c.args in
    let f : ℕ → Bool = row_off (laid a.index.now) (rows_of a.rows.now) in
    sym (c.loop-r.invariant ∙ some_none f c.rows_of-end.result c.loop-r.r c.loop-r-test.false)
