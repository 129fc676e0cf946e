-- `program::print_refusal` meets its contract, by that of the listing: the line of a refusal fits the lent bytes.
use native.Mathlib.Omega.{arith}
use Rattle.program.proofs.PrintedOfText.{line_printed}
use Rattle.program.proofs.printed.print_refusal.Goals as goal

pub returns : goal.returns
returns c =
    let w = c.write_refusal in
    let z = line_printed _ _ _ w.result c.ranges.number.fits (omega (arith, c.write_refusal-arg-1.given.0.1)) w.ensures.answer w.ensures.bytes in
    record { count = rw z.0 at c.unwrap_or.ensures; bytes = z.1 }
