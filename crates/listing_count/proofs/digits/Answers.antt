-- `listing_count::digits` meets its contract: each power of ten adds a digit.
use mathlib.Core.Path.{sym}
use native.Mathlib.Omega.{arith}
use Rattle.listing_count.proofs.DigitCounts.{one_digit, more_digits}
use Rattle.listing_count.proofs.digits.Goals as goal

pub returns-then-n-lt10 : goal.returns-then-n-lt10
returns-then-n-lt10 c = (sym (one_digit c.args.n (omega arith)), omega arith)

pub returns-then-n-lt100 : goal.returns-then-n-lt100
returns-then-n-lt100 c = (sym (more_digits 0 c.args.n (omega arith) (omega arith)), omega arith)

pub returns-then-n-lt1000 : goal.returns-then-n-lt1000
returns-then-n-lt1000 c = (sym (more_digits 1 c.args.n (omega arith) (omega arith)), omega arith)

pub returns-then-n-lt10000 : goal.returns-then-n-lt10000
returns-then-n-lt10000 c = (sym (more_digits 2 c.args.n (omega arith) (omega arith)), omega arith)

pub returns-then-n-lt100000 : goal.returns-then-n-lt100000
returns-then-n-lt100000 c = (sym (more_digits 3 c.args.n (omega arith) (omega arith)), omega arith)

pub returns-then-n-lt1000000 : goal.returns-then-n-lt1000000
returns-then-n-lt1000000 c = (sym (more_digits 4 c.args.n (omega arith) (omega arith)), omega arith)

pub returns-then-n-lt10000000 : goal.returns-then-n-lt10000000
returns-then-n-lt10000000 c = (sym (more_digits 5 c.args.n (omega arith) (omega arith)), omega arith)

pub returns-then-n-lt100000000 : goal.returns-then-n-lt100000000
returns-then-n-lt100000000 c = (sym (more_digits 6 c.args.n (omega arith) (omega arith)), omega arith)

pub returns-then-n-lt-LASTCLOCK : goal.returns-then-n-lt-LASTCLOCK
returns-then-n-lt-LASTCLOCK c = (sym (more_digits 7 c.args.n (omega arith) (omega arith)), omega arith)

pub returns : goal.returns
returns c = (sym (more_digits 8 c.args.n (omega arith) (omega arith)), omega arith)
