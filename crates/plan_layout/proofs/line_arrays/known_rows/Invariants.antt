-- `plan_layout::known_rows` meets its contract: before turn k the first k are filled.
use mathlib.Core.Path.{◌≡◌}
use Prim.Native.Nat.{◌≤◌, ◌+◌}
use Rattle.lists.specs.Lists.{fill}
use Rattle.plan.specs.Tests.{at}
use Rattle.plan_layout.specs.LineArrays.{knownby_of}
use Rattle.plan_layout.proofs.line_arrays.known_rows.Given as goal

abbrev pub invariant-loop-k : goal.invariant-loop-k
invariant-loop-k l = (l.k ≤ l.edges) × (l.knownby ≡ fill 128 (λ i. knownby_of (at l.kind i) (at l.from i) (l.conditionrow + at l.condition i)) l.k)
