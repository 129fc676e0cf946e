-- `kernel_rows::entries_from` meets its contract: before turn i, the entries from `first` to i are of the row, and what
-- follows from i on is left to count.
use Rattle.std.proofs.Common.{◌≡◌, ℕ, ◌+◌, ◌-◌, ◌≤◌, List, drop}
use Rattle.model.specs.Table.{entries_of}
use Rattle.model.specs.Lookup.{run_of_row}
use Rattle.kernel_rows.specs.RowRange.{RowsOf}
use Rattle.kernel_rows.proofs.entries_from.Given as goal

abbrev pub invariant-loop-i : goal.invariant-loop-i
invariant-loop-i g l =
    (l.first ≤ l.i) × (l.i ≤ l.n)
    × ((words : List ℕ) → RowsOf (goal.F-post g l.row_of) l.n words → run_of_row l.row (drop l.first (entries_of words)) ≡ (l.i - l.first) + run_of_row l.row (drop l.i (entries_of words)))
