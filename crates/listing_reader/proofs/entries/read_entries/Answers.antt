-- `read_entries` reads the entries as the grammar does: those up to `next` stand in front, in order, the last in `row`.
use Prim.Native.Nat.{◌≤◌, ◌<◌}
use mathlib.Core.List.{[], ◌∷◌, ◌++◌}
use native.Mathlib.Omega.{arith}
use Rattle.limits.specs.Limits.{PRINTEDENTRIES}
use Rattle.listing_scanner.specs.Lines.{entry_of}
use Rattle.listing_reader.proofs.LinesSoFar.{entries_law, begun, as_long, advanced, more}
use Rattle.listing_reader.proofs.RowsInOrder.{none_ordered, more_ordered}
use Rattle.listing_reader.proofs.RunsEnded.{entries_over, row_behind, entries_too_many}
use Rattle.listing_reader.proofs.entries.read_entries.Goals as goal

pub loop-e-init : goal.loop-e-init
loop-e-init c = ([], begun (entries_law c.requires.1) c.requires.0, none_ordered)

pub entry_line-requires : goal.entry_line-requires
entry_line-requires c = (c.loop-e.invariant.1.within, c.requires.1)

pub returns : goal.returns
returns c =
    entries_over c.requires.1 c.loop-e.invariant.1 c.loop-e.invariant.2 c.requires.2
    c.in_default.ensures

pub returns-then-e-row : goal.returns-then-e-row
returns-then-e-row c =
    let x = entry_of c.in-Some.e in
    let behind : x.row < c.loop-e.row = omega (arith, c.if-e-row.true) in
    row_behind c.requires.1 c.loop-e.invariant.1 c.loop-e.invariant.2 x
    c.in-Some.ensures behind

pub returns-then-count-ge-PRINTEDENTRIES : goal.returns-then-count-ge-PRINTEDENTRIES
returns-then-count-ge-PRINTEDENTRIES c =
    let full : PRINTEDENTRIES ≤ c.loop-e.count = omega (arith, c.if-count-ge-PRINTEDENTRIES.true) in
    entries_too_many c.requires.1 c.loop-e.invariant.1 c.loop-e.invariant.2 (entry_of c.in-Some.e)
    c.in-Some.ensures full

pub loop-e-preserved : goal.loop-e-preserved
loop-e-preserved c =
    let x = entry_of c.in-Some.e in
    let in_order : c.loop-e.row ≤ x.row = omega (arith, c.if-e-row.false) in
    let room : c.loop-e.count < PRINTEDENTRIES = omega (arith, c.if-count-ge-PRINTEDENTRIES.false) in (
      c.loop-e.invariant.0 ++ (x ∷ []),
      more (entries_law c.requires.1) c.loop-e.invariant.1 x c.in-Some.ensures room c.put_entry.ensures,
      more_ordered c.loop-e.invariant.2 x in_order,
    )

pub loop-e-smaller : goal.loop-e-smaller
loop-e-smaller c =
    omega (arith, advanced (entries_law c.requires.1) c.loop-e.invariant.1 (entry_of c.in-Some.e) c.in-Some.ensures, c.in-Some.ensures.within)

pub put_entry-requires : goal.put_entry-requires
put_entry-requires c =
    (omega (arith, c.if-count-ge-PRINTEDENTRIES.false), omega (arith, as_long (entries_law c.requires.1) c.loop-e.invariant.1, c.requires.2))
