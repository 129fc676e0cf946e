-- `listing_count::entries_room` meets its contract: before each turn the entries of the words that are left are still
-- to be taken from the room.
use mathlib.Core.Path.{◌∙◌}
use Rattle.listing_count.specs.Parts.{entry_text}
use Rattle.listing_count.proofs.Words.{entries_split}
use Rattle.listing_count.proofs.Leaving.{leaving_next}
use Rattle.listing_count.proofs.entries_room.Goals as goal

pub loop-e-preserved : goal.loop-e-preserved
loop-e-preserved c =
    let l = c.loop-e in
    let a = c.args.counts in
    let s = c.in-Some.ensures.steps in
    (s.0 ∙ l.invariant.0, leaving_next l.invariant.1 _ (entries_split (entry_text a.processes a.edges a.conditions) _ _ s.1.0 (s.1.1 ∙ l.invariant.0)) c.entry_room-left.ensures)
