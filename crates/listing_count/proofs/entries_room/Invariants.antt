-- `listing_count::entries_room` meets its contract: before each turn the entries of the words that are left are still
-- to be taken from the room.
use Rattle.std.proofs.Common.{◌≡◌}
use Rattle.listing_count.specs.Parts.{entries_text}
use Rattle.listing_count.proofs.Leaving.{Leaving}
use Rattle.listing_count.proofs.entries_room.Given as goal

abbrev pub invariant-loop-e : goal.invariant-loop-e
invariant-loop-e l =
    (l.e-iterator.size ≡ 5)
    × Leaving l.room l.left (entries_text l.counts.processes l.counts.edges l.counts.conditions l.table) (entries_text l.counts.processes l.counts.edges l.counts.conditions l.e-iterator.rest.now)
