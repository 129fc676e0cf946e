-- `print_answer` meets its contract: the line of either answer fits the lent bytes.
use mathlib.Core.Path.{sym}
use Prim.Native.Nat.{ℕ, ◌^◌, ◌<◌}
use native.Mathlib.Omega.{arith}
use Rattle.model.specs.ListingText.{check_prints}
use Rattle.check_program.proofs.Printing.{refused_fits, fits, stored}
use borrow.Author.Rules.{rules}
use Rattle.check_program.proofs.printed.print_answer.Goals as goal

pub returns-in-Ok-clause-count : goal.returns-in-Ok-clause-count
unfolding check_prints
returns-in-Ok-clause-count c = rw c.in-Ok.is (stored c.put_word.ensures (omega (arith, c.put_word-arg-1.given.0.1))).0

pub returns-in-Ok-clause-bytes : goal.returns-in-Ok-clause-bytes
unfolding check_prints
returns-in-Ok-clause-bytes c = rw c.in-Ok.is (stored c.put_word.ensures (omega (arith, c.put_word-arg-1.given.0.1))).1

pub returns-in-Err-clause-count : goal.returns-in-Err-clause-count
unfolding check_prints
returns-in-Err-clause-count c =
    let n : ℕ = c.number.result in
    let l : n < 2 ^ 32 = search rules in
    rw (c.in-Err.is, sym c.number.ensures) (stored c.put_refusal.ensures (omega (arith, refused_fits n l, c.put_refusal-arg-1.given.0.1))).0

pub returns-in-Err-clause-bytes : goal.returns-in-Err-clause-bytes
unfolding check_prints
returns-in-Err-clause-bytes c =
    let n : ℕ = c.number.result in
    let l : n < 2 ^ 32 = search rules in
    rw (c.in-Err.is, sym c.number.ensures) (stored c.put_refusal.ensures (omega (arith, refused_fits n l, c.put_refusal-arg-1.given.0.1))).1

pub put_word-requires : goal.put_word-requires
put_word-requires c = fits _ _ (omega (arith, c.put_word-arg-1.given.0.1))

pub put_refusal-requires : goal.put_refusal-requires
put_refusal-requires c =
    let n : ℕ = c.number.result in
    let l : n < 2 ^ 32 = search rules in
    fits _ _ (omega (arith, refused_fits n l, c.put_refusal-arg-1.given.0.1))
