-- `plan_layout::row_sizes` meets its contract: before turn r the first r are filled.
use mathlib.Core.Path.{◌≡◌}
use Prim.Native.Nat.{◌≤◌}
use Rattle.lists.specs.Lists.{fill}
use Rattle.plan_layout.specs.RowArrays.{size_of_row}
use Rattle.plan_layout.proofs.row_arrays.row_sizes.Given as goal

abbrev pub invariant-loop-r : goal.invariant-loop-r
invariant-loop-r l = (l.r ≤ l.rows) × (l.size ≡ fill 198 (size_of_row l.bytes l.processes l.conditionrow) l.r)
