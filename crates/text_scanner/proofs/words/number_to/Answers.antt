-- `number_to` gives what the grammar reads: the first digit, and then the digits that follow it.
use mathlib.Core.Path.{sym}
use Rattle.text_scanner.proofs.WordSteps.{number_end, number_next, number_off}
use Rattle.text_scanner.proofs.words.number_to.Goals as goal

pub returns-in_err-b : goal.returns-in_err-b
returns-in_err-b c = rw c.from_residual.ensures (record { within = tt; same = sym (number_end _ _ _ c.in_err-b.ensures.lookup.3) })

pub returns-then-not-is_ascii_digit : goal.returns-then-not-is_ascii_digit
returns-then-not-is_ascii_digit c =
    let b = c.in_ok-b.ensures.lookup in
    record { within = tt; same = sym (number_off _ _ _ _ b.3.0 (b.3.1 0) (sym c.if-not-is_ascii_digit.ensures.value)) }

pub returns : goal.returns
returns c =
    let b = c.in_ok-b.ensures.lookup in
    rw (number_next _ _ _ _ b.3.0 (b.3.1 0) (sym c.if-not-is_ascii_digit.ensures.value), ← c.value.ensures) c.digits.ensures
