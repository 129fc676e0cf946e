-- `read_passed` reads the passed lines as the grammar does: the counts of the nodes before `node` stand in front.
use Prim.Native.Nat.{ℕ}
use mathlib.Core.List.{List}
use Rattle.listing_reader.proofs.PassedSoFar.{Sofar}
use Rattle.listing_reader.proofs.passed.read_passed.Given as goal

abbrev pub invariant-loop-node : goal.invariant-loop-node
invariant-loop-node l = (counts : List ℕ) × Sofar counts l.text l.at l.slots l.initial.passed l.passed l.next l.node
