-- `listing::put_frames` meets its contract: before each turn the frames of the words that are left are still to be
-- stored.
use mathlib.Core.Path.{◌∙◌}
use Rattle.listing_count.specs.Parts.{frame_text}
use Rattle.listing_count.proofs.Words.{frames_split}
use Rattle.listing_bytes.proofs.Stored.{going_next}
use Rattle.listing.proofs.frames.put_frames.Goals as goal

pub loop-f-preserved : goal.loop-f-preserved
loop-f-preserved c =
    let l = c.loop-f in
    let s = c.in-Some.ensures.steps in
    (s.0 ∙ l.invariant.0, going_next l.invariant.1 (frames_split frame_text _ _ s.1.0 (s.1.1 ∙ l.invariant.0)) c.put_frame-end.ensures)
