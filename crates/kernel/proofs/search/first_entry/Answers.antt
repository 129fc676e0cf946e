-- `kernel::first_entry` meets its contract: before turn i, what the search from i on finds is the answer.
use Rattle.std.proofs.Common.{◌/◌, ◌<◌, ◌≤◌, length, sym, ap, ◌∙◌, arith}
use Rattle.kernel.specs.Finding.{found_of}
use Rattle.kernel.proofs.SearchTurns.{search_end, search_found, search_next}
use Rattle.kernel.proofs.search.first_entry.Goals as goal

pub returns-then-fits : goal.returns-then-fits
returns-then-fits g c =
    λ test words t.
    let i = c.loop-i.i in
    let l : i < length words / 5 = omega (arith, t.count) in
    let q = t.tests i c.fits.result c.loop-i-test.true c.fits.ensures in
    sym (ap found_of (c.loop-i.invariant test words t ∙ search_found test words i l (sym q ∙ c.if-fits.true)))

pub loop-i-preserved : goal.loop-i-preserved
loop-i-preserved g c =
    λ test words t.
    let i = c.loop-i.i in
    let l : i < length words / 5 = omega (arith, t.count) in
    let q = t.tests i c.fits.result c.loop-i-test.true c.fits.ensures in
    c.loop-i.invariant test words t ∙ search_next test words i l (sym q ∙ c.if-fits.false)

pub returns : goal.returns
returns g c =
    λ test words t.
    let l : length words / 5 ≤ c.loop-i.i = omega (arith, t.count) in
    sym (ap found_of (c.loop-i.invariant test words t ∙ search_end test words c.loop-i.i l))
