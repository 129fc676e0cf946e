-- `listing_bytes::put_digits` meets its contract: the digits above the last four are stored, and above the last eight,
-- then each four.
use native.Mathlib.Omega.{arith}
use Prim.Native.Nat.{◌/◌}
use Rattle.text_lines.proofs.Puts.{put_then}
use Rattle.listing_bytes.proofs.DigitGroups.{decimal_fours}
use Rattle.listing_bytes.proofs.Stored.{fits_first, fits_rest}
use Rattle.listing_bytes.proofs.numbers.put_digits.Goals as goal

pub put_short-end-requires : goal.put_short-end-requires
put_short-end-requires c =
    (omega arith, fits_first _ _ (rw (decimal_fours c.args.n (omega arith)) at c.requires))

pub put_four-requires : goal.put_four-requires
put_four-requires c =
    (omega arith, fits_rest c.put_short-end.ensures _ (rw (decimal_fours c.args.n (omega arith)) at c.requires))

pub returns-then-upper-lt10000 : goal.returns-then-upper-lt10000
returns-then-upper-lt10000 c =
    rw (decimal_fours c.args.n (omega arith)) (put_then c.put_short-end.ensures c.put_four.ensures)

pub put_short-first-requires : goal.put_short-first-requires
put_short-first-requires c =
    (omega arith, fits_first _ _ (fits_first _ _ (rw (decimal_fours c.args.n (omega arith), decimal_fours (c.args.n / 10000) (omega arith)) at c.requires)))

pub put_four-second-requires : goal.put_four-second-requires
put_four-second-requires c =
    (omega arith, fits_rest c.put_short-first.ensures _ (fits_first _ _ (rw (decimal_fours c.args.n (omega arith), decimal_fours (c.args.n / 10000) (omega arith)) at c.requires)))

pub put_four-requires-2 : goal.put_four-requires-2
put_four-requires-2 c =
    (omega arith, fits_rest (put_then c.put_short-first.ensures c.put_four-second.ensures) _ (rw (decimal_fours c.args.n (omega arith), decimal_fours (c.args.n / 10000) (omega arith)) at c.requires))

pub returns : goal.returns
returns c =
    rw (decimal_fours c.args.n (omega arith), decimal_fours (c.args.n / 10000) (omega arith))
    (put_then (put_then c.put_short-first.ensures c.put_four-second.ensures) c.put_four-2.ensures)
