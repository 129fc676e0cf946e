-- `listing_count::item_room` meets its contract: the room loses the conditions of the column, then the fixed words and
-- the digits.
use mathlib.Core.Path.{refl}
use native.Mathlib.Omega.{arith}
use Rattle.model.specs.Text.{text}
use Rattle.listing_count.proofs.Lengths.{item_length}
use Rattle.listing_count.proofs.item_room.Goals as goal

pub returns : goal.returns
returns c =
    let a = c.args in
    omega (arith, item_length (text "(send ") refl a.conditions a.number a.known a.values a.tick a.place, c.saturating_sub.ensures, c.digits-3.ensures.0, c.digits-2.ensures.0, c.digits.ensures.0, c.values_room-column.ensures)
