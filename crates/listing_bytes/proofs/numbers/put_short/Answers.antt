-- `listing_bytes::put_short` meets its contract: by how many digits the number has.
use native.Mathlib.Omega.{arith}
use Rattle.text_grammar.proofs.Numbers.{decimal_small}
use Rattle.text_lines.proofs.Puts.{put_then}
use Rattle.listing_bytes.proofs.DigitGroups.{decimal_two, decimal_three, decimal_four}
use Rattle.listing_bytes.proofs.Stored.{fits_first, fits_rest}
use Rattle.listing_bytes.proofs.numbers.put_short.Goals as goal

pub put_digit-requires : goal.put_digit-requires
put_digit-requires c =
    (omega arith, rw (decimal_small c.args.n (omega arith)) at c.requires.1)

pub returns-then-n-lt10 : goal.returns-then-n-lt10
returns-then-n-lt10 c =
    rw (decimal_small c.args.n (omega arith)) c.put_digit.ensures

pub put_two-requires : goal.put_two-requires
put_two-requires c =
    (omega arith, rw (decimal_two c.args.n (omega arith) (omega arith)) at c.requires.1)

pub returns-then-n-lt100 : goal.returns-then-n-lt100
returns-then-n-lt100 c =
    rw (decimal_two c.args.n (omega arith) (omega arith)) c.put_two.ensures

pub put_digit-end-requires : goal.put_digit-end-requires
put_digit-end-requires c =
    (omega arith, fits_first _ _ (rw (decimal_three c.args.n (omega arith) (omega arith)) at c.requires.1))

pub put_two-requires-then-n-lt1000 : goal.put_two-requires-then-n-lt1000
put_two-requires-then-n-lt1000 c =
    (omega arith, fits_rest c.put_digit-end.ensures _ (rw (decimal_three c.args.n (omega arith) (omega arith)) at c.requires.1))

pub returns-then-n-lt1000 : goal.returns-then-n-lt1000
returns-then-n-lt1000 c =
    rw (decimal_three c.args.n (omega arith) (omega arith)) (put_then c.put_digit-end.ensures c.put_two-then-n-lt1000.ensures)

pub put_four-requires : goal.put_four-requires
put_four-requires c =
    (omega arith, rw (decimal_four c.args.n (omega arith) (omega arith)) at c.requires.1)

pub returns : goal.returns
returns c =
    rw (decimal_four c.args.n (omega arith) (omega arith)) c.put_four.ensures
