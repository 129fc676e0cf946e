-- `listing::put_counts` meets its contract: before each turn the passed lines from node i on are still to be stored.
-- What is stored stands before what the call needs, so that a wrong program fails first where the lines are wrong.
use lib.ListN.{drop}
use Rattle.listing_count.specs.Parts.{passed_text}
use Rattle.listing_bytes.specs.Going.{Going}
use Rattle.listing.proofs.frames.put_counts.Given as goal

abbrev pub invariant-loop-i : goal.invariant-loop-i
invariant-loop-i l = Going l.initial.out l.out l.at l.end (passed_text 0 l.passed) (passed_text l.i (drop l.i l.passed))
