-- `listing_count::values_room` meets its contract: before turn k the conditions from k on are still to be taken from
-- the room. The bits of the word halve, so that k and the word together never grow.
use Prim.Native.Nat.{◌+◌, ◌-◌, ◌≤◌}
use Rattle.listing_count.specs.Parts.{values_from}
use Rattle.listing_count.proofs.Leaving.{Leaving}
use Rattle.listing_count.proofs.values_room.Given as goal

abbrev pub invariant-loop-k : goal.invariant-loop-k
invariant-loop-k l = (l.k + l.x ≤ l.known) × Leaving l.room l.left (values_from l.conditions l.known l.values 0) (values_from (l.conditions - l.k) l.x l.v l.k)
