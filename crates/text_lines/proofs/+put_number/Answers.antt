-- `text_lines::put_number` meets its contract: the digits of a tenth of the number are put, then its last digit.
-- Assumes nothing.
use Rattle.std.proofs.Common.{◌≡◌, ◌+◌, ◌%◌, ap, arith}
use Rattle.text_grammar.proofs.Numbers.{decimal_small, decimal_large}
use Rattle.text_lines.proofs.Puts.{put_then, counts_first, counts_rest}
use Rattle.text_lines.proofs.+put_number.Goals as goal
use lib.ListN.{length}

pub put_byte-requires : goal.put_byte-requires
put_byte-requires t c =
    record { fits = omega (arith, c.requires.fits, ap length (decimal_small c.args.n (omega arith))) }

pub returns-then-n-lt10 : goal.returns-then-n-lt10
returns-then-n-lt10 t c =
    let d : c.digit.result ≡ 48 + c.args.n = c.digit.ensures in
    rw (decimal_small c.args.n (omega arith), ← d) c.put_byte.ensures

pub put_number-end-requires : goal.put_number-end-requires
put_number-end-requires t c = (omega arith, counts_first _ _ (rw (decimal_large c.args.n (omega arith)) at c.requires))

pub put_byte-requires-2 : goal.put_byte-requires-2
put_byte-requires-2 t c =
    record { fits = (counts_rest c.put_number-end.ensures _ (rw (decimal_large c.args.n (omega arith)) at c.requires)).fits }

pub returns : goal.returns
returns t c =
    let d : c.digit-2.result ≡ 48 + c.args.n % 10 = c.digit-2.ensures in
    rw (decimal_large c.args.n (omega arith), ← d) (put_then c.put_number-end.ensures c.put_byte-2.ensures)
