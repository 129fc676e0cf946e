-- `planner_sends::which_sends` meets its contract: the nodes from n on give the whole answer.
use mathlib.Core.Path.{◌≡◌}
use Prim.Native.Nat.{◌-◌}
use lib.Dec.{eqb}
use lib.ListN.{get_or}
use Rattle.lists.specs.Lists.{upfrom, below}
use Rattle.planner_nodes.specs.Nodes.{nodes_of}
use Rattle.planner_sends.specs.Clocks.{first_or}
use Rattle.planner_sends.proofs.clocks.which_sends.Given as goal

abbrev pub invariant-loop-n : goal.invariant-loop-n
invariant-loop-n l =
    first_or l.slots (λ k. eqb (get_or (nodes_of l.nodes).nextsend k 0) l.u) (below l.slots) ≡ first_or l.slots (λ k. eqb (get_or (nodes_of l.nodes).nextsend k 0) l.u) (upfrom l.n (l.slots - l.n))
