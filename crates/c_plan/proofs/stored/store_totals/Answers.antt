-- `c_plan::store_totals` meets its contract: three words are stored, and the counts are copied behind them.
use mathlib.Core.Path.{◌≡◌}
use native.Mathlib.Omega.{arith}
use lib.ListN.{length}
use Rattle.limits.specs.Limits.{TOTALS}
use Rattle.c_plan.proofs.TotalsOfWords.{three_long, totals_stored}
use Rattle.c_plan.proofs.stored.store_totals.Goals as goal

pub returns : goal.returns
returns c =
    let m = c.args.m in
    let lent = c.args.totals.now in
    let long : length lent ≡ TOTALS = three_long lent _ _ _ _ _ _ c.copy_at-arg-1.given.0.1 in
    totals_stored m.words m.framewords m.delay c.args.passed.now lent (omega (arith, c.requires.2, long)) c.copy_at.ensures
