-- `plan_order::sender_keys` meets its contract: before turn k the first k are filled.
use mathlib.Core.Path.{◌≡◌}
use Prim.Native.Nat.{◌≤◌}
use lib.ListN.{length}
use Rattle.lists.specs.Lists.{fill}
use Rattle.plan.specs.Numbers.{from_at, to_at}
use Rattle.plan.specs.Tests.{at}
use Rattle.plan_order.specs.Weights.{sender_key}
use Rattle.plan_order.proofs.orders.sender_keys.Given as goal

abbrev pub invariant-loop-k : goal.invariant-loop-k
invariant-loop-k l = (l.k ≤ length l.edges) × (l.key ≡ fill 128 (λ k. sender_key (at l.node (from_at l.edges k)) (at l.node (to_at l.edges k))) l.k)
