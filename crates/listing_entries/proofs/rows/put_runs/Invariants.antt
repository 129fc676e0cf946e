-- `listing_entries::put_runs` meets its contract: before each turn an entry of the row stands at word i, and the
-- entries from there on are still to be stored.
use mathlib.Core.Path.{◌≡◌}
use Prim.Native.Nat.{◌+◌, ◌-◌, ◌*◌, ◌≤◌}
use lib.ListN.{length, drop, get_or}
use Rattle.listing_bytes.specs.Going.{Going}
use Rattle.listing_count.specs.Parts.{entries_text}
use Rattle.model.specs.Table.{entries_of}
use Rattle.listing_entries.specs.Runs.{of_row, leading, row_entries}
use Rattle.listing_entries.proofs.rows.put_runs.Given as goal

abbrev pub invariant-loop-counts : goal.invariant-loop-counts
invariant-loop-counts l =
    (l.i + 5 ≤ length l.table)
    × (get_or l.table l.i 0 ≡ get_or l.table l.first 0)
    × (l.i + 5 * leading (of_row (get_or l.table l.first 0)) (entries_of (drop l.i l.table)) ≡ l.first + 5 * row_entries l.table l.first)
    × Going l.initial.out l.out l.at l.end (entries_text l.counts.processes l.counts.edges l.counts.conditions (drop l.first l.table)) (entries_text l.counts.processes l.counts.edges l.counts.conditions (drop l.i l.table))

abbrev pub decreases-loop-counts : goal.decreases-loop-counts
decreases-loop-counts l = length l.table - l.i
