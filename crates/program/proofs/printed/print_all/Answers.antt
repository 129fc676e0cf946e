-- `program::print_all` meets its contract, by that of `list_plan`: what is printed fits the lent bytes.
use native.Mathlib.Omega.{arith}
use Rattle.program.proofs.PrintedOfText.{listing_printed, refusal_printed}
use Rattle.program.proofs.printed.print_all.Goals as goal

pub returns-in-Ok : goal.returns-in-Ok
returns-in-Ok c = listing_printed _ _ _ (omega (arith, c.list_plan-arg-1.given.0.1)) _ c.in-Ok.ensures

pub returns-in-Err : goal.returns-in-Err
returns-in-Err c =
    let q = c.print_refusal in
    refusal_printed _ _ _ (omega (arith, c.list_plan-arg-1.given.0.1)) c.in-Err.refusal _ _ c.in-Err.ensures (rw c.number.ensures at q.ensures.count) (rw c.number.ensures at q.ensures.bytes)
