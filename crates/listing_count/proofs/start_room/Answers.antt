-- `listing_count::start_room` meets its contract: the room loses the conditions of the column, then the fixed words and
-- the digits.
use native.Mathlib.Omega.{arith}
use Rattle.listing_count.proofs.Lengths.{start_length}
use Rattle.listing_count.proofs.start_room.Goals as goal

pub returns : goal.returns
returns c =
    let a = c.args in
    omega (arith, start_length a.conditions a.row a.known a.values a.tick, c.saturating_sub.ensures, c.digits-2.ensures.0, c.digits.ensures.0, c.values_room-column.ensures)
