-- `plan_layout::row_spans` meets its contract: before turn r the first r are filled.
use mathlib.Core.Path.{◌≡◌}
use Prim.Native.Nat.{◌≤◌}
use Rattle.lists.specs.Lists.{fill}
use Rattle.plan.specs.Tests.{at}
use Rattle.plan_layout.specs.RowArrays.{span_of_row}
use Rattle.plan_layout.proofs.row_arrays.row_spans.Given as goal

abbrev pub invariant-loop-r : goal.invariant-loop-r
invariant-loop-r l = (l.r ≤ l.rows) × (l.span ≡ fill 198 (λ k. span_of_row l.ticks l.lasts l.processes k (at l.sender k)) l.r)
