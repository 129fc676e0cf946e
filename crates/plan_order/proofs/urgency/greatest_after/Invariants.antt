-- `plan_order::greatest_after` meets its contract: with what is left, the greatest so far gives the whole.
use Prim.Native.Nat.{◌≤◌}
use lib.Dec.{eqb}
use lib.ListN.{length}
use Rattle.lists.proofs.Greatest.{Most}
use Rattle.plan.specs.Numbers.{from_at, to_at}
use Rattle.plan.specs.Tests.{at}
use Rattle.plan_order.proofs.urgency.greatest_after.Given as goal

abbrev pub invariant-loop-e : goal.invariant-loop-e
invariant-loop-e l =
    (l.e-index ≤ length l.edges) × Most (λ k. at l.urgency (to_at l.edges k)) (λ k. eqb (from_at l.edges k) l.i) (length l.edges) l.e-index l.most
