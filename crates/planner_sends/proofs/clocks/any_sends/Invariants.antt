-- `planner_sends::any_sends` meets its contract: what is found before node n, or a slot of the nodes from n on,
-- gives the whole answer.
use mathlib.Core.Path.{◌≡◌}
use mathlib.Core.Bool.{◌||◌}
use Prim.Native.Nat.{◌-◌, ◌≤◌}
use lib.Dec.{eqb}
use lib.ListN.{get_or}
use Rattle.lists.specs.Lists.{any, upfrom, below}
use Rattle.planner_nodes.specs.Nodes.{nodes_of}
use Rattle.planner_sends.proofs.clocks.any_sends.Given as goal

abbrev pub invariant-loop-n : goal.invariant-loop-n
invariant-loop-n l =
    (l.n ≤ 8) × (any (λ k. eqb (get_or (nodes_of l.nodes).nextsend k 0) l.u) (below 8) ≡ (l.found || any (λ k. eqb (get_or (nodes_of l.nodes).nextsend k 0) l.u) (upfrom l.n (8 - l.n))))
