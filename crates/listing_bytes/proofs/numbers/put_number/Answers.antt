-- `listing_bytes::put_number` meets its contract: a number below ten is its digit.
use native.Mathlib.Omega.{arith}
use Rattle.text_grammar.proofs.Numbers.{decimal_small}
use Rattle.listing_bytes.proofs.numbers.put_number.Goals as goal

pub put_digit-requires : goal.put_digit-requires
put_digit-requires c =
    (omega arith, rw (decimal_small c.args.n (omega arith)) at c.requires)

pub returns-then-n-lt10 : goal.returns-then-n-lt10
returns-then-n-lt10 c = rw (decimal_small c.args.n (omega arith)) c.put_digit.ensures
