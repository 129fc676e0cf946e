-- `plan::twin_edges` meets its contract: before each turn the marks are those of the pairs before, and what is left
-- gives the whole answer.
use mathlib.Core.List.{List}
use Prim.Native.Nat.{ℕ, ◌+◌, ◌*◌}
use lib.ListN.{length, get_or}
use Rattle.lists.specs.Lists.{earlier}
use Rattle.lists.proofs.Loops.{Left}
use Rattle.lists.proofs.Marks.{Marked}
use Rattle.plan.specs.declared.Edge.{Edge}
use Rattle.plan.specs.Memory.{no_edge}
use Rattle.plan.proofs.any_tests.twin_edges.Given as goal

-- the ends of edge i, two numbers below 64, as one
abbrev pub pair : List Edge → ℕ → ℕ
pair es i = (get_or es i no_edge).from * 64 + (get_or es i no_edge).to

abbrev pub invariant-loop-e : goal.invariant-loop-e
invariant-loop-e l = Left (earlier (pair l.edges)) (length l.edges) l.e-index × Marked (pair l.edges) 4096 l.seen l.e-index
