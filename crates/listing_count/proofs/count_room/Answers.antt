-- `listing_count::count_room` meets its contract: the room loses the fixed words and the digits.
use native.Mathlib.Omega.{arith}
use Rattle.listing_count.proofs.Lengths.{passed_length}
use Rattle.listing_count.proofs.count_room.Goals as goal

pub returns : goal.returns
returns c =
    let a = c.args in
    omega (arith, passed_length a.node a.count, c.saturating_sub.ensures, c.digits-2.ensures.0, c.digits.ensures.0)
