-- `program::refused_frames` meets its contract, by that of the count of a listing.
use mathlib.Core.Path.{sym, ◌∙◌}
use mathlib.Core.Bool.{true, false}
use native.Mathlib.Omega.{arith}
use lib.ListN.{length-take}
use Rattle.lists.proofs.Counts.{take_most}
use Rattle.program.proofs.ListingOfPlan.{many_refused}
use Rattle.program.proofs.listed.refused_frames.Goals as goal

pub slice_bounds-passed-end : goal.slice_bounds-passed-end
slice_bounds-passed-end c =
    let nodes = c.min-nodes in
    omega (arith, length-take nodes.result c.args.passed.now, nodes.ensures, c.requires.fact_2)

pub exceeds-requires : goal.exceeds-requires
exceeds-requires c =
    let nodes = c.min-nodes in
    omega (arith, take_most nodes.result c.args.passed.now, nodes.ensures)

pub returns-then-exceeds : goal.returns-then-exceeds
returns-then-exceeds c =
    let a = c.args in
    let nodes = c.min-nodes in
    many_refused a.p a.delay a.passed.now a.table.now a.frames.now nodes.result a.lent true c.requires.fact_1 c.requires.fact_2 nodes.ensures (sym c.if-exceeds.true ∙ c.exceeds.ensures)

pub returns : goal.returns
returns c =
    let a = c.args in
    let nodes = c.min-nodes in
    many_refused a.p a.delay a.passed.now a.table.now a.frames.now nodes.result a.lent false c.requires.fact_1 c.requires.fact_2 nodes.ensures (sym c.if-exceeds.false ∙ c.exceeds.ensures)
