-- `listing_entries::put_each` meets its contract: before turn k the conditions from k on are still to be stored. The
-- bits of the word halve, so that k and the word together never grow.
use mathlib.Core.Path.{◌≡◌, ◌∙◌}
use native.Mathlib.Omega.{arith}
use Prim.Native.Nat.{◌+◌, ◌-◌, ◌/◌}
use Rattle.listing_count.specs.Parts.{value_at}
use Rattle.listing_count.proofs.Cases.{values_next, values_past, values_none}
use Rattle.text_lines.proofs.Puts.{put_length}
use Rattle.listing_bytes.proofs.Stored.{going_start, going_length, going_fits, going_next, going_end, fits_first}
use Rattle.listing_entries.proofs.column.put_each.Goals as goal

pub loop-k-init : goal.loop-k-init
loop-k-init c = let z : c.args.conditions - 0 ≡ c.args.conditions = omega arith in (omega arith, rw z (going_start _ _ _))

pub shape_of-out-then-x-eq0 : goal.shape_of-out-then-x-eq0
shape_of-out-then-x-eq0 c = put_length c.put_value-end.ensures ∙ going_length c.loop-k.invariant.1

pub returns-then-x-eq0 : goal.returns-then-x-eq0
returns-then-x-eq0 c =
    let l = c.loop-k in
    let next = going_next l.invariant.1 (values_next c.args.conditions l.x l.v l.k (omega arith)) c.put_value-end.ensures in
    going_end next (rw c.if-x-eq0.true (values_none (c.args.conditions - (l.k + 1)) (l.v / 2) (l.k + 1)))

pub put_value-end-requires : goal.put_value-end-requires
put_value-end-requires c =
    let l = c.loop-k in
    fits_first (value_at l.x l.v l.k) _ (rw (values_next c.args.conditions l.x l.v l.k (omega arith)) at (going_fits l.invariant.1 c.requires))

pub loop-k-preserved : goal.loop-k-preserved
loop-k-preserved c =
    let l = c.loop-k in
    (omega arith, going_next l.invariant.1 (values_next c.args.conditions l.x l.v l.k (omega arith)) c.put_value-end.ensures)

pub shape_of-out : goal.shape_of-out
shape_of-out c = going_length c.loop-k.invariant.1

pub returns : goal.returns
returns c =
    let l = c.loop-k in
    going_end l.invariant.1 (values_past c.args.conditions l.x l.v l.k (omega arith))
