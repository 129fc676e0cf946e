-- `listing_count::passed_room` meets its contract: before each turn the passed lines from node i on are still to be taken
-- from the room.
use lib.ListN.{drop}
use Rattle.listing_count.specs.Parts.{passed_text}
use Rattle.listing_count.proofs.Leaving.{Leaving}
use Rattle.listing_count.proofs.passed_room.Given as goal

abbrev pub invariant-loop-i : goal.invariant-loop-i
invariant-loop-i l = Leaving l.room l.left (passed_text 0 l.passed) (passed_text l.i (drop l.i l.passed))
