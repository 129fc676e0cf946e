-- `checker_rules::overlap` meets its contract: the processes from i on give the whole answer.
use mathlib.Core.Path.{sym, ◌∙◌, ap}
use mathlib.Core.Bool.{Bool}
use Prim.Native.Nat.{ℕ}
use native.Mathlib.Omega.{arith}
use Rattle.plan_index.specs.Index.{laid}
use Rattle.log_rows.specs.Rows.{rows_of}
use Rattle.checker_rows.specs.MetArrays.{some}
use Rattle.checker_rows.proofs.RangeLoops.{some_next, some_found, some_none}
use Rattle.checker_rules.specs.Rules.{overlap_by, row_overlaps}
use Rattle.checker_rules.proofs.overlaps.overlap.Goals as goal

pub loop-i-init : goal.loop-i-init
unfolding overlap_by
loop-i-init c =
    let a = c.args in
    ap (some (row_overlaps (laid a.index.now) (rows_of a.rows.now)) 0) (sym c.processes_of-processes.ensures.0)

pub overlaps-requires : goal.overlaps-requires
overlaps-requires c =
    record { fact_1 = omega (arith, c.loop-i-test.true, c.processes_of-processes.ensures.1); fact_2 = c.requires.fact_1; fact_3 = c.requires.fact_2 }

pub returns-then-overlaps : goal.returns-then-overlaps
returns-then-overlaps c =
    let a = c.args in
    let f : ℕ → Bool = row_overlaps (laid a.index.now) (rows_of a.rows.now) in
    sym (c.loop-i.invariant ∙ some_found f c.processes_of-processes.result c.loop-i.i c.loop-i-test.true (sym c.overlaps.ensures ∙ c.if-overlaps.true))

pub loop-i-preserved : goal.loop-i-preserved
loop-i-preserved c =
    let a = c.args in
    let f : ℕ → Bool = row_overlaps (laid a.index.now) (rows_of a.rows.now) in
    c.loop-i.invariant ∙ some_next f c.processes_of-processes.result c.loop-i.i c.loop-i-test.true (sym c.overlaps.ensures ∙ c.if-overlaps.false)

pub returns : goal.returns
returns c =
    let a = c.args in
    let f : ℕ → Bool = row_overlaps (laid a.index.now) (rows_of a.rows.now) in
    sym (c.loop-i.invariant ∙ some_none f c.processes_of-processes.result c.loop-i.i c.loop-i-test.false)
