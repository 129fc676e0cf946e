-- `listing::put_frames` meets its contract: before each turn the frames of the words that are left are still to be
-- stored.
use mathlib.Core.Path.{◌≡◌}
use Rattle.listing_count.specs.Parts.{frames_text}
use Rattle.listing_bytes.specs.Going.{Going}
use Rattle.listing.proofs.frames.put_frames.Given as goal

abbrev pub invariant-loop-f : goal.invariant-loop-f
invariant-loop-f l = (l.f-iterator.size ≡ 3) × Going l.initial.out l.out l.at l.end (frames_text l.frames) (frames_text l.f-iterator.rest.now)
