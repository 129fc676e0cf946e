-- An array by node, worked out of a plan's columns number by number: the conditions that the node's processes decide,
-- as masks.
-- Assumes nothing.
use Rattle.std.specs.Prelude.{List, ℕ, eqb}
use Rattle.limits.specs.Limits.{NODES}
use Rattle.lists.specs.Lists.{fill}
use Rattle.bitset.specs.Masks.{mask_from}
use Rattle.plan.specs.Tests.{at}

-- the conditions that the processes of node n decide
abbrev pub decided_at : List ℕ → List ℕ → ℕ → ℕ → ℕ
decided_at decider node conditions n = mask_from (λ k. eqb (at node (at decider k)) n) 0 conditions

-- the same by node
unfoldable pub decided_by_node : List ℕ → List ℕ → ℕ → List ℕ
decided_by_node decider node conditions = fill NODES (decided_at decider node conditions) NODES
