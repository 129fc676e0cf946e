-- `listing::put_counts` meets its contract: before each turn the passed lines from node i on are still to be stored.
-- What is stored stands before what the call needs, so that a wrong program fails first where the lines are wrong.
use native.Mathlib.Omega.{arith}
use lib.ListN.{get_or}
use Rattle.listing_count.specs.Parts.{passed_of}
use Rattle.listing_count.proofs.Words.{counts_at, counts_end}
use Rattle.listing_bytes.proofs.Stored.{going_start, going_length, going_fits, going_next, going_end, fits_first}
use Rattle.listing.proofs.frames.put_counts.Goals as goal

pub loop-i-init : goal.loop-i-init
loop-i-init c = going_start _ _ _

pub loop-i-preserved : goal.loop-i-preserved
loop-i-preserved c =
    let l = c.loop-i in
    let ws = c.args.passed.now in
    going_next l.invariant {u = passed_of l.i (get_or ws l.i 0)} (counts_at ws l.i (omega arith)) c.put_count-end.ensures

pub returns : goal.returns
returns c =
    let l = c.loop-i in
    let ws = c.args.passed.now in
    going_end l.invariant (counts_end ws l.i (omega arith))

pub put_count-end-requires : goal.put_count-end-requires
put_count-end-requires c =
    let l = c.loop-i in
    let ws = c.args.passed.now in
    fits_first (passed_of l.i (get_or ws l.i 0)) _ (rw (counts_at ws l.i (omega arith)) at (going_fits l.invariant c.requires.0))

pub shape_of-out : goal.shape_of-out
shape_of-out c = going_length c.loop-i.invariant
