-- `read_lines` reads the whole listing as the grammar does, part by part.
use native.Mathlib.Omega.{arith}
use Rattle.listing_reader.proofs.PartsRead.{no_delay, no_passed, entries_formless, frames_formless, more_follows, whole_listing}
use Rattle.listing_reader.proofs.reader.read_lines.Goals as goal

pub returns-in_err-delay : goal.returns-in_err-delay
returns-in_err-delay c = rw c.from_residual.ensures (no_delay c.args.counts c.in_err-delay.ensures)

pub returns-in_err-j : goal.returns-in_err-j
returns-in_err-j c = rw c.from_residual-in_err-j.ensures (no_passed c.args.counts c.in_ok-delay.ensures c.in_err-j.ensures)

pub returns-in_err-entries : goal.returns-in_err-entries
returns-in_err-entries c =
    rw c.from_residual-in_err-entries.ensures
    (entries_formless c.args.counts c.in_ok-delay.ensures c.in_ok-j.ensures c.in_err-entries.ensures)

pub returns-in_err-used : goal.returns-in_err-used
returns-in_err-used c =
    rw c.from_residual-in_err-used.ensures
    (frames_formless c.args.counts c.in_ok-delay.ensures c.in_ok-j.ensures c.in_ok-entries.ensures c.in_err-used.ensures)

pub returns-then-end-text : goal.returns-then-end-text
returns-then-end-text c =
    more_follows c.args.counts c.in_ok-delay.ensures c.in_ok-j.ensures c.in_ok-entries.ensures c.in_ok-used.ensures (omega arith)

pub returns : goal.returns
returns c =
    whole_listing c.args.counts c.in_ok-delay.ensures c.in_ok-j.ensures c.in_ok-entries.ensures c.in_ok-used.ensures (omega arith)
