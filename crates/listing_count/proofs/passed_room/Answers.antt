-- `listing_count::passed_room` meets its contract: before each turn the passed lines from node i on are still to be taken
-- from the room.
use native.Mathlib.Omega.{arith}
use lib.ListN.{get_or}
use Rattle.listing_count.specs.Parts.{passed_of}
use Rattle.listing_count.proofs.Words.{counts_at, counts_end}
use Rattle.listing_count.proofs.Leaving.{leaving_next, leaving_end}
use Rattle.listing_count.proofs.passed_room.Goals as goal

pub loop-i-preserved : goal.loop-i-preserved
loop-i-preserved c =
    let l = c.loop-i in
    let ws = c.args.passed.now in
    leaving_next l.invariant (passed_of l.i (get_or ws l.i 0)) (counts_at ws l.i (omega arith)) c.count_room-left.ensures

pub returns : goal.returns
returns c =
    let l = c.loop-i in
    leaving_end l.invariant (counts_end c.args.passed.now l.i (omega arith))
