-- `listing::write_refusal` meets its contract: the line is stored where the lent bytes have room. What is answered and
-- stored stands before what the calls need, so that a wrong program fails first where the contract does.
use native.Mathlib.Omega.{arith}
use Rattle.model.specs.Listing.{refused_line}
use Rattle.listing_count.proofs.Lines.{refused_length}
use Rattle.listing.proofs.Written.{refused_ten, stored_all, fits_all}
use Rattle.listing.proofs.writer.write_refusal.Goals as goal

pub returns : goal.returns
returns c =
    let a = c.args in
    let e = stored_all c.put_refusal.ensures (omega (arith, refused_length a.number, c.digits.ensures.0)) in
    record { answer = e.0; bytes = e.1 }

pub returns-then-out-digits : goal.returns-then-out-digits
returns-then-out-digits c =
    let a = c.args in
    let e = refused_ten a.out.now (refused_line a.number) (omega (arith, refused_length a.number, c.digits.ensures.0)) in
    record { answer = e.0; bytes = e.1 }

pub put_refusal-requires : goal.put_refusal-requires
put_refusal-requires c =
    let a = c.args in
    fits_all a.out.now (refused_line a.number) (omega (arith, refused_length a.number, c.digits.ensures.0))
