-- `planner_sends::at_clock` meets its contract: before each turn the mask has the bits of the nodes from n on.
use mathlib.Core.Path.{◌≡◌}
use Prim.Native.Nat.{◌+◌, ◌-◌, ◌≤◌}
use lib.Dec.{eqb}
use lib.ListN.{get_or}
use Rattle.bitset.specs.Masks.{mask_from}
use Rattle.planner_sends.proofs.clocks.at_clock.Given as goal

abbrev pub invariant-loop-n : goal.invariant-loop-n
invariant-loop-n l = (l.n ≤ 8) × (l.mask ≡ mask_from (λ k. eqb (get_or l.nodes (l.at + k) 0) l.u) l.n (8 - l.n))

abbrev pub decreases-loop-n : goal.decreases-loop-n
decreases-loop-n l = l.n
