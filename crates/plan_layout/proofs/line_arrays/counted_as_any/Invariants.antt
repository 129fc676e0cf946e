-- `plan_layout::counted_as_any` meets its contract: before turn i the first i are filled.
use mathlib.Core.Path.{◌≡◌}
use Prim.Native.Nat.{◌+◌, ◌≤◌}
use lib.ListN.{length}
use Rattle.lists.specs.Lists.{fill}
use Rattle.plan.specs.Numbers.{any_at}
use Rattle.plan.specs.Tests.{at}
use Rattle.plan_layout.specs.LineArrays.{as_any_of}
use Rattle.plan_layout.proofs.line_arrays.counted_as_any.Given as goal

abbrev pub invariant-loop-i : goal.invariant-loop-i
invariant-loop-i l = (l.i ≤ length l.processes) × (l.asany ≡ fill 64 (λ k. as_any_of (any_at l.processes k) (at l.first k) (at l.first (k + 1))) l.i)
