-- `kernel::column_met` meets its contract: its two tests on words are the test on each bit.
use Rattle.std.proofs.Common.{sym, ◌∙◌}
use borrow.Author.Tests.{eq-eqb, ne_eqb}
use Rattle.kernel.proofs.ColumnBits.{met_32}
use Rattle.kernel.proofs.column.column_met.Goals as goal

pub returns-then-known-heard : goal.returns-then-known-heard
returns-then-known-heard c =
    let a = c.args in
    sym (met_32 a.known a.values a.heard a.told c.ranges.known.fits ∙ rw (eq-eqb _ _ c.if-known-heard.true))

pub returns-else-known-heard : goal.returns-else-known-heard
returns-else-known-heard c =
    let a = c.args in
    let unheard = ne_eqb _ _ c.if-known-heard.false in
    unheard ∙ sym (met_32 a.known a.values a.heard a.told c.ranges.known.fits ∙ rw unheard)
