-- `listing::write_counted` meets its contract: the listing is that of document 01, and it is stored where the lent
-- bytes have room. What is answered and stored stands before what the calls need, so that a wrong program fails first
-- where the contract does.
use mathlib.Core.Path.{sym, ◌∙◌}
use native.Mathlib.Omega.{arith}
use borrow.Author.Tests.{ltb-true, ltb-false}
use lib.ListN.{length, take, length-take}
use Rattle.lists.proofs.Counts.{take_most}
use Rattle.listing_count.specs.Parts.{listing_of}
use Rattle.listing.proofs.Written.{plan_listing, refused_ten, stored_all, fits_all}
use Rattle.listing.proofs.writer.write_counted.Goals as goal

pub returns-then-exceeds : goal.returns-then-exceeds
returns-then-exceeds c =
    let a = c.args in
    let nodes = c.min-nodes in
    let bytes = listing_of a.p.processes a.p.edges a.p.conditions a.delay (take nodes.result a.passed.now) a.table.now a.frames.now in
    let e = refused_ten a.out.now bytes (ltb-true (length a.out.now) (length bytes) (sym c.exceeds.ensures ∙ c.if-exceeds.true)) in
    rw (plan_listing a.p a.delay a.passed.now a.table.now a.frames.now nodes.result c.requires nodes.ensures)
    (record { answer = e.0; bytes = e.1 })

pub returns : goal.returns
returns c =
    let a = c.args in
    let nodes = c.min-nodes in
    let bytes = listing_of a.p.processes a.p.edges a.p.conditions a.delay (take nodes.result a.passed.now) a.table.now a.frames.now in
    let e = stored_all c.put_listing.ensures (ltb-false (length a.out.now) (length bytes) (sym c.exceeds.ensures ∙ c.if-exceeds.false)) in
    rw (plan_listing a.p a.delay a.passed.now a.table.now a.frames.now nodes.result c.requires nodes.ensures)
    (record { answer = e.0; bytes = e.1 })

pub slice_bounds-passed-end : goal.slice_bounds-passed-end
slice_bounds-passed-end c =
    let nodes = c.min-nodes in
    omega (arith, length-take nodes.result c.args.passed.now, nodes.ensures, c.requires)

pub exceeds-requires : goal.exceeds-requires
exceeds-requires c =
    let nodes = c.min-nodes in
    omega (arith, take_most nodes.result c.args.passed.now, nodes.ensures)

pub put_listing-requires : goal.put_listing-requires
put_listing-requires c =
    let a = c.args in
    let nodes = c.min-nodes in
    let bytes = listing_of a.p.processes a.p.edges a.p.conditions a.delay (take nodes.result a.passed.now) a.table.now a.frames.now in
    (fits_all a.out.now bytes (ltb-false (length a.out.now) (length bytes) (sym c.exceeds.ensures ∙ c.if-exceeds.false)), omega (arith, take_most nodes.result a.passed.now, nodes.ensures))
