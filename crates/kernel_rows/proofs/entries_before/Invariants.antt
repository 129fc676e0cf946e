-- `kernel_rows::entries_before` meets its contract: before turn i, what the entries from i on add is all that is left
-- to count.
use Rattle.std.proofs.Common.{◌≡◌, ℕ, ◌+◌, ◌≤◌, List, drop}
use Rattle.model.specs.Table.{entries_of}
use Rattle.model.specs.Lookup.{before_row}
use Rattle.kernel_rows.specs.RowRange.{RowsOf}
use Rattle.kernel_rows.proofs.entries_before.Given as goal

abbrev pub invariant-loop-i : goal.invariant-loop-i
invariant-loop-i g l =
    (l.i ≤ l.n)
    × ((words : List ℕ) → RowsOf (goal.F-post g l.row_of) l.n words → before_row l.row (entries_of words) ≡ l.i + before_row l.row (drop l.i (entries_of words)))
