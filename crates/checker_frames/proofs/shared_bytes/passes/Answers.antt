-- `checker_frames::passes` meets its contract.
use Rattle.checker_frames.specs.SharedBytes.{passes_by}
use Rattle.checker_frames.proofs.shared_bytes.passes.Goals as goal

pub returns : goal.returns
unfolding passes_by
returns c =
    simp (← c.sender_of-n.ensures.0, ← c.rooms_of.ensures, ← c.place_of-place.ensures, ← c.size_of-size.ensures.0)
