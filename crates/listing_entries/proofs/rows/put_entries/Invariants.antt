-- `listing_entries::put_entries` meets its contract: before each row the entries of the words from i on are still to be
-- stored.
use Prim.Native.Nat.{◌-◌, ◌≤◌}
use lib.ListN.{length, drop}
use Rattle.listing_count.specs.Parts.{entries_text}
use Rattle.listing_bytes.specs.Going.{Going}
use Rattle.listing_entries.proofs.rows.put_entries.Given as goal

abbrev pub invariant-loop-i : goal.invariant-loop-i
invariant-loop-i l =
    (l.i ≤ length l.table) × Going l.initial.out l.out l.at l.end (entries_text l.counts.processes l.counts.edges l.counts.conditions l.table) (entries_text l.counts.processes l.counts.edges l.counts.conditions (drop l.i l.table))

abbrev pub decreases-loop-i : goal.decreases-loop-i
decreases-loop-i l = length l.table - l.i
