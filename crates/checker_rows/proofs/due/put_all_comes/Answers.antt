-- `checker_rows::put_all_comes` meets its contract: before turn r the first r rows are over at the clock.
use mathlib.Core.Path.{refl, ◌∙◌}
use native.Mathlib.Omega.{arith}
use lib.ListN.{length-set}
use Rattle.checker_rows.proofs.DueMade.{over_next, over_all}
use Rattle.checker_rows.proofs.due.put_all_comes.Goals as goal

pub loop-r-init : goal.loop-r-init
loop-r-init c = (omega arith, refl, refl)

pub bounds-rows-r : goal.bounds-rows-r
bounds-rows-r c =
    omega (arith, c.loop-r-test.true, c.requires, c.loop-r.invariant.1)

pub loop-r-preserved : goal.loop-r-preserved
loop-r-preserved c =
    let a = c.args in (
      omega (arith, c.loop-r-test.true),
      length-set c.loop-r.rows _ _ ∙ c.loop-r.invariant.1,
      over_next a.rows.now c.requires a.clock c.loop-r.r c.loop-r.rows c.loop-r-test.true c.loop-r.invariant.2,
    )

pub shape_of-rows : goal.shape_of-rows
shape_of-rows c = c.loop-r.invariant.1

pub returns : goal.returns
returns c =
    let a = c.args in
    over_all a.rows.now c.requires a.clock c.loop-r.r c.loop-r.rows (omega (arith, c.loop-r.invariant.0, c.loop-r-test.false)) c.loop-r.invariant.2
