-- `checker::check_listing` meets its contract: a refusal of the plan, or else the answer to the listing.
use mathlib.Core.Path.{sym}
use Rattle.std.proofs.lemmas.Result.{err_from_is_err_and}
use Rattle.plan.specs.Memory.{lines}
use Rattle.checker.proofs.PlanRefused.{plan_refused}
use Rattle.checker.proofs.check_listing.Goals as goal

pub returns-in_err-refuse : goal.returns-in_err-refuse
returns-in_err-refuse c =
    let a = c.args in
    let p = err_from_is_err_and c.from_residual.result c.from_residual.ensures.1 in
    rw (p.1, p.2) (plan_refused (lines a.p) a.listing.now _ (sym c.in_err-refuse.ensures))

pub check_listed-requires : goal.check_listed-requires
check_listed-requires c = sym c.in_ok-refuse.ensures

pub returns : goal.returns
returns c = c.check_listed.ensures
