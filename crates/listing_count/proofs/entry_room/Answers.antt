-- `listing_count::entry_room` meets its contract: the row tells which line is counted.
use mathlib.Core.Path.{refl, ap}
use Prim.Native.Nat.{◌-◌}
use native.Mathlib.Omega.{arith}
use lib.ListN.{length}
use Rattle.model.specs.Text.{text}
use Rattle.listing_count.proofs.Cases.{entry_start, entry_send, entry_tell, entry_none}
use Rattle.listing_count.proofs.Lengths.{item_length}
use Rattle.listing_count.proofs.entry_room.Goals as goal

pub returns-then-number-counts : goal.returns-then-number-counts
returns-then-number-counts c =
    let a = c.args in
    omega (arith, ap length (entry_start a.counts.processes a.counts.edges a.counts.conditions a.row a.known a.values a.tick a.place (omega arith)), c.start_room.ensures)

pub returns-then-edge-counts : goal.returns-then-edge-counts
returns-then-edge-counts c =
    let a = c.args in
    rw (← entry_send a.counts.processes a.counts.edges a.counts.conditions a.row a.known a.values a.tick a.place (omega arith) (omega arith)) at c.item_room.ensures

pub returns-then-condition-conditions : goal.returns-then-condition-conditions
returns-then-condition-conditions c =
    let a = c.args in
    let number = a.row - a.counts.processes - a.counts.edges in
    omega (arith, ap length (entry_tell a.counts.processes a.counts.edges a.counts.conditions a.row a.known a.values a.tick a.place (omega arith) (omega arith) (omega arith)), item_length (text "(send ") refl a.counts.conditions number a.known a.values a.tick a.place, item_length (text "(tell ") refl a.counts.conditions number a.known a.values a.tick a.place, c.item_room-then-condition-conditions.ensures)

pub returns : goal.returns
returns c =
    let a = c.args in
    omega (arith, ap length (entry_none a.counts.processes a.counts.edges a.counts.conditions a.row a.known a.values a.tick a.place (omega arith) (omega arith) (omega arith)))
