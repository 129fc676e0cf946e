-- `listing_count::values_room` meets its contract: before turn k the conditions from k on are still to be taken from
-- the room. The bits of the word halve, so that k and the word together never grow.
use native.Mathlib.Omega.{arith}
use Prim.Native.Nat.{◌+◌, ◌-◌, ◌/◌}
use Rattle.listing_count.specs.Parts.{value_at}
use Rattle.listing_count.proofs.Cases.{values_next, values_past, values_none}
use Rattle.listing_count.proofs.Leaving.{leaving_next, leaving_end}
use Rattle.listing_count.proofs.values_room.Goals as goal

pub returns-then-x-eq0 : goal.returns-then-x-eq0
returns-then-x-eq0 c =
    let l = c.loop-k in
    let next = leaving_next l.invariant.1 (value_at l.x l.v l.k) (values_next c.args.conditions l.x l.v l.k (omega arith)) c.value_room-left.ensures in
    leaving_end next (rw c.if-x-eq0.true (values_none (c.args.conditions - (l.k + 1)) (l.v / 2) (l.k + 1)))

pub loop-k-preserved : goal.loop-k-preserved
loop-k-preserved c =
    let l = c.loop-k in
    (omega arith, leaving_next l.invariant.1 (value_at l.x l.v l.k) (values_next c.args.conditions l.x l.v l.k (omega arith)) c.value_room-left.ensures)

pub returns : goal.returns
returns c =
    let l = c.loop-k in
    leaving_end l.invariant.1 (values_past c.args.conditions l.x l.v l.k (omega arith))
