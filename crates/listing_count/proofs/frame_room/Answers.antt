-- `listing_count::frame_room` meets its contract: the room loses the fixed words and the digits.
use native.Mathlib.Omega.{arith}
use Rattle.listing_count.proofs.Lengths.{frame_length}
use Rattle.listing_count.proofs.frame_room.Goals as goal

pub returns : goal.returns
returns c =
    let a = c.args in
    omega (arith, frame_length a.tick a.node a.used, c.saturating_sub.ensures, c.digits-3.ensures.0, c.digits-2.ensures.0, c.digits.ensures.0)
