-- `listing_count::frames_room` meets its contract: before each turn the frames of the words that are left are still to
-- be taken from the room.
use Rattle.std.proofs.Common.{◌≡◌}
use Rattle.listing_count.specs.Parts.{frames_text}
use Rattle.listing_count.proofs.Leaving.{Leaving}
use Rattle.listing_count.proofs.frames_room.Given as goal

abbrev pub invariant-loop-f : goal.invariant-loop-f
invariant-loop-f l = (l.f-iterator.size ≡ 3) × Leaving l.room l.left (frames_text l.frames) (frames_text l.f-iterator.rest.now)
