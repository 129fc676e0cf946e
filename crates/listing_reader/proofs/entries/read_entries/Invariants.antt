-- `read_entries` reads the entries as the grammar does: those up to `next` stand in front, in order, the last in `row`.
use Prim.Native.Nat.{◌-◌}
use mathlib.Core.List.{List}
use lib.ListN.{length}
use Rattle.model.specs.Table.{Entry}
use Rattle.listing_reader.proofs.LinesSoFar.{Sofar, entries}
use Rattle.listing_reader.proofs.RowsInOrder.{Ordered}
use Rattle.listing_reader.proofs.entries.read_entries.Given as goal

abbrev pub invariant-loop-e : goal.invariant-loop-e
invariant-loop-e l =
    (es : List Entry) × Sofar (entries l.counts) es l.text l.at l.initial.table l.table l.next l.count × Ordered es l.row

abbrev pub decreases-loop-e : goal.decreases-loop-e
decreases-loop-e l = length l.text - l.next
