-- `checker_frames::share_byte` meets its contract: the rows from i on give the whole answer.
use mathlib.Core.Path.{sym, ◌∙◌}
use mathlib.Core.Bool.{Bool}
use Prim.Native.Nat.{ℕ}
use native.Mathlib.Omega.{arith}
use Rattle.plan_index.specs.Index.{laid}
use Rattle.log_rows.specs.Rows.{rows_of}
use Rattle.checker_rows.specs.MetArrays.{some}
use Rattle.checker_rows.proofs.RangeLoops.{some_next, some_found, some_none}
use Rattle.checker_frames.specs.SharedBytes.{share_by, row_shares}
use Rattle.checker_frames.proofs.shared_bytes.share_byte.Goals as goal

pub loop-i-init : goal.loop-i-init
unfolding share_by
loop-i-init c =
    let a = c.args in
    λ k. some (row_shares (laid a.index.now) (rows_of a.rows.now)) (sym c.processes_of-i.ensures.0 k) (sym c.rows_of-end.ensures.0 k)

pub shares-requires : goal.shares-requires
shares-requires c =
    let l = c.loop-i-test.true in
    record { fact_1 = omega (arith, l, c.rows_of-end.ensures.1); fact_2 = c.requires.fact_1; fact_3 = c.requires.fact_2; fact_4 = c.requires.fact_3 }

pub returns-then-shares : goal.returns-then-shares
returns-then-shares c =
    let a = c.args in
    let f : ℕ → Bool = row_shares (laid a.index.now) (rows_of a.rows.now) in
    sym (c.loop-i.invariant ∙ some_found f c.rows_of-end.result c.loop-i.i c.loop-i-test.true (sym c.shares.ensures ∙ c.if-shares.true))

pub loop-i-preserved : goal.loop-i-preserved
loop-i-preserved c =
    let a = c.args in
    let f : ℕ → Bool = row_shares (laid a.index.now) (rows_of a.rows.now) in
    c.loop-i.invariant ∙ some_next f c.rows_of-end.result c.loop-i.i c.loop-i-test.true (sym c.shares.ensures ∙ c.if-shares.false)

pub returns : goal.returns
returns c =
    let a = c.args in
    let f : ℕ → Bool = row_shares (laid a.index.now) (rows_of a.rows.now) in
    sym (c.loop-i.invariant ∙ some_none f c.rows_of-end.result c.loop-i.i c.loop-i-test.false)
