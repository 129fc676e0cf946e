-- `listing_count::exceeds` meets its contract: where any listing of so many words fits, this one does. Otherwise the
-- room is the bytes lent and one more, and it is used up where the listing needs more.
use mathlib.Core.Path.{sym, ◌∙◌}
use native.Mathlib.Omega.{arith}
use lib.ListN.{length}
use Prim.Native.Nat.{◌+◌}
use borrow.Author.Tests.{lt-ltb, le-ltb}
use Rattle.model.specs.Text.{decimal}
use Rattle.listing_count.specs.Parts.{passed_text, entries_text, frames_text, listing_of}
use Rattle.listing_count.proofs.Lengths.{listing_length, used_up}
use Rattle.listing_count.proofs.Most.{TenDigits, listing_most}
use Rattle.listing_count.proofs.Enough.{ample_enough}
use Rattle.listing_count.proofs.exceeds.Goals as goal

pub returns-then-suffice : goal.returns-then-suffice
returns-then-suffice c =
    let a = c.args in
    let s = ample_enough a.lent a.counts.conditions (length a.table.now) (length a.frames.now) (sym c.suffice.ensures ∙ c.if-suffice.true) in
    let counts : TenDigits a.passed.now = λ i. omega (arith, c.type_inv.passed i) in
    let table : TenDigits a.table.now = λ i. omega (arith, c.type_inv.table i) in
    let frames : TenDigits a.frames.now = λ i. omega (arith, c.type_inv.frames i) in
    sym (le-ltb a.lent (length (listing_of a.counts.processes a.counts.edges a.counts.conditions a.delay a.passed.now a.table.now a.frames.now))
    (omega (arith, s.1, listing_most a.counts.processes a.counts.edges a.counts.conditions a.delay a.passed.now a.table.now a.frames.now s.0 (omega arith) c.requires counts table frames)))

pub returns-then-lent-first : goal.returns-then-lent-first
returns-then-lent-first c =
    let a = c.args in
    sym (lt-ltb a.lent (length (listing_of a.counts.processes a.counts.edges a.counts.conditions a.delay a.passed.now a.table.now a.frames.now)) (omega (arith, listing_length a.counts.processes a.counts.edges a.counts.conditions a.delay a.passed.now a.table.now a.frames.now, c.digits-first.ensures.0)))

pub returns : goal.returns
returns c =
    let a = c.args in
    let d = c.digits-first.ensures.0 in
    rw (c.frames_room.ensures, c.entries_room.ensures, c.passed_room-room.ensures, d, listing_length a.counts.processes a.counts.edges a.counts.conditions a.delay a.passed.now a.table.now a.frames.now)
    (used_up a.lent (9 + length (decimal a.delay)) (length (passed_text 0 a.passed.now)) (length (entries_text a.counts.processes a.counts.edges a.counts.conditions a.table.now)) (length (frames_text a.frames.now)) (omega (arith, d)))
