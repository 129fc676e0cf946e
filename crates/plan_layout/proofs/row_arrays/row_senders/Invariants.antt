-- `plan_layout::row_senders` meets its contract: before turn r the first r are filled.
use mathlib.Core.Path.{◌≡◌}
use Prim.Native.Nat.{◌≤◌}
use Rattle.lists.specs.Lists.{fill}
use Rattle.plan.specs.Tests.{at}
use Rattle.plan_layout.specs.RowArrays.{process_of_row}
use Rattle.plan_layout.proofs.row_arrays.row_senders.Given as goal

abbrev pub invariant-loop-r : goal.invariant-loop-r
invariant-loop-r l = (l.r ≤ l.rows) × (l.sender ≡ fill 198 (λ k. at l.node (process_of_row l.from l.decider l.processes l.conditionrow k)) l.r)
