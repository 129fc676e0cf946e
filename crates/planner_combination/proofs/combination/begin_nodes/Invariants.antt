-- `planner_combination::begin_nodes` meets its contract: before turn n the first n nodes have begun.
use mathlib.Core.Path.{◌≡◌}
use Prim.Native.Nat.{◌≤◌}
use Rattle.limits.specs.Limits.{NEVER}
use Rattle.lists.specs.Lists.{fill}
use Rattle.planner_nodes.specs.Nodes.{nodes_of, with_nextsend, with_lastarrival}
use Rattle.planner_combination.proofs.combination.begin_nodes.Given as goal

abbrev pub invariant-loop-n : goal.invariant-loop-n
invariant-loop-n l = (l.n ≤ 8) × (nodes_of l.nodes ≡ with_nextsend (fill 8 (λ k. NEVER) l.n) (with_lastarrival (fill 8 (λ k. l.start) l.n) (nodes_of l.initial.nodes)))
