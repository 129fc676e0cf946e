-- `read_frames` reads the frames as the grammar does: those up to `next` stand in front.
use Prim.Native.Nat.{◌-◌}
use mathlib.Core.List.{List}
use lib.ListN.{length}
use Rattle.model.specs.Table.{Frame}
use Rattle.listing_reader.proofs.LinesSoFar.{Sofar, frames as kind}
use Rattle.listing_reader.proofs.frames.read_frames.Given as goal

abbrev pub invariant-loop-f : goal.invariant-loop-f
invariant-loop-f l = (fs : List Frame) × Sofar kind fs l.text l.at l.initial.frames l.frames l.next l.count

abbrev pub decreases-loop-f : goal.decreases-loop-f
decreases-loop-f l = length l.text - l.next
