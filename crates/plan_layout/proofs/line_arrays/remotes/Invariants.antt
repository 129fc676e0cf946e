-- `plan_layout::remotes` meets its contract: before turn k the first k are filled.
use mathlib.Core.Path.{◌≡◌}
use Prim.Native.Nat.{◌≤◌}
use lib.ListN.{length}
use Rattle.lists.specs.Lists.{fill}
use Rattle.plan.specs.Numbers.{from_at, to_at}
use Rattle.plan.specs.Tests.{at}
use Rattle.plan_layout.specs.LineArrays.{receiver_of}
use Rattle.plan_layout.proofs.line_arrays.remotes.Given as goal

abbrev pub invariant-loop-k : goal.invariant-loop-k
invariant-loop-k l = (l.k ≤ length l.edges) × (l.remote ≡ fill 128 (λ i. receiver_of (at l.node (from_at l.edges i)) (at l.node (to_at l.edges i))) l.k)
