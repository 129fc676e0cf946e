-- `plan_order::receivers` meets its contract: before turn k the first k are filled.
use mathlib.Core.Path.{◌≡◌}
use Prim.Native.Nat.{◌≤◌}
use lib.ListN.{length}
use Rattle.lists.specs.Lists.{fill}
use Rattle.plan.specs.Numbers.{to_at}
use Rattle.plan_order.proofs.orders.receivers.Given as goal

abbrev pub invariant-loop-k : goal.invariant-loop-k
invariant-loop-k l = (l.k ≤ length l.edges) × (l.to ≡ fill 128 (to_at l.edges) l.k)
