-- `log_queries::last_end` meets its contract: the greatest so far and what is left give the whole.
use mathlib.Core.Path.{refl, ap, ◌∙◌}
use mathlib.Core.Bool.{true}
use Prim.Native.Nat.{max}
use native.Mathlib.Omega.{arith}
use lib.ListN.{get_or}
use Rattle.lists.proofs.Greatest.{most_start, most_taken, most_whole}
use Rattle.log_rows.specs.Rows.{rows_of}
use Rattle.log_queries.specs.Reading.{last_end_by}
use Rattle.log_queries.proofs.row_ends.last_end.Goals as goal

pub loop-i-init : goal.loop-i-init
loop-i-init c =
    most_start (λ i. get_or (rows_of c.args.rows.now).comes i 0) (λ k. true) c.args.processes

pub loop-i-preserved : goal.loop-i-preserved
loop-i-preserved c =
    let a = c.args in
    most_taken (λ i. get_or (rows_of a.rows.now).comes i 0) (λ k. true) a.processes c.loop-i.i c.loop-i.most c.loop-i-test.true refl c.loop-i.invariant (c.max-most.ensures ∙ ap (max c.loop-i.most) c.comes_of.ensures)

pub returns : goal.returns
unfolding last_end_by
returns c =
    let a = c.args in
    let q = most_whole (λ i. get_or (rows_of a.rows.now).comes i 0) a.processes c.loop-i.i c.loop-i.most c.loop-i-test.false c.loop-i.invariant in
    omega arith
