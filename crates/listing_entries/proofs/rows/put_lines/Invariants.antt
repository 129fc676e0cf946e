-- `listing_entries::put_lines` meets its contract: before each turn an entry of the run stands at word i, and the
-- entries from there on are still to be stored.
use mathlib.Core.Path.{◌≡◌}
use mathlib.Core.Bool.{true}
use Prim.Native.Nat.{◌+◌, ◌-◌, ◌*◌, ◌≤◌}
use lib.ListN.{length, drop}
use Rattle.listing_bytes.specs.Going.{Going}
use Rattle.listing_count.specs.Parts.{entries_text}
use Rattle.model.specs.Table.{entries_of}
use Rattle.listing_entries.specs.Runs.{run_of, entry_from, leading, run_entries}
use Rattle.listing_entries.proofs.rows.put_lines.Given as goal

abbrev pub invariant-loop-counts : goal.invariant-loop-counts
invariant-loop-counts l =
    (l.i + 5 ≤ length l.table)
    × (run_of l.table l.first (entry_from l.table l.i) ≡ true)
    × (l.i + 5 * leading (run_of l.table l.first) (entries_of (drop l.i l.table)) ≡ l.first + 5 * run_entries l.table l.first)
    × Going l.initial.out l.out l.at l.end (entries_text l.counts.processes l.counts.edges l.counts.conditions (drop l.first l.table)) (entries_text l.counts.processes l.counts.edges l.counts.conditions (drop l.i l.table))

abbrev pub decreases-loop-counts : goal.decreases-loop-counts
decreases-loop-counts l = length l.table - l.i
