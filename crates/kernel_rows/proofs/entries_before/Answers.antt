-- `kernel_rows::entries_before` meets its contract: before turn i, what the entries from i on add is all that is left
-- to count.
use Rattle.std.proofs.Common.{◌/◌, ◌<◌, ◌≤◌, length, sym, ◌∙◌, arith}
use Rattle.kernel_rows.proofs.Rows.{before_end, before_here, before_next}
use Rattle.kernel_rows.proofs.entries_before.Goals as goal

pub returns-then-row_of-row-clause-value : goal.returns-then-row_of-row-clause-value
returns-then-row_of-row-clause-value g c =
    λ words t.
    let i = c.loop-i.i in
    let l : i < length words / 5 = omega (arith, t.count) in
    let q = t.rows i c.row_of.result c.loop-i-test.true c.row_of.ensures in
    omega (arith, c.loop-i.invariant.1 words t, before_here words c.args.row i l (sym q ∙ c.if-row_of-row.true))

pub loop-i-preserved : goal.loop-i-preserved
loop-i-preserved g c = (
  omega arith,
  λ words t.
      let i = c.loop-i.i in
      let l : i < length words / 5 = omega (arith, t.count) in
      let q = t.rows i c.row_of.result c.loop-i-test.true c.row_of.ensures in
      omega (arith, c.loop-i.invariant.1 words t, before_next words c.args.row i l (λ e. c.if-row_of-row.false (q ∙ e))),
)

pub returns-clause-value : goal.returns-clause-value
returns-clause-value g c =
    λ words t.
    let l : length words / 5 ≤ c.loop-i.i = omega (arith, t.count) in
    omega (arith, c.loop-i.invariant.1 words t, before_end words c.args.row c.loop-i.i l)
