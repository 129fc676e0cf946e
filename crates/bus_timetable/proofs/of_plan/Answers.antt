-- `bus_timetable::of_plan` meets its contract: before turn n the first n of each array are filled.
use mathlib.Core.Path.{◌≡◌, ap, ◌∙◌}
use native.Mathlib.Omega.{arith}
use lib.ListN.{length}
use Rattle.lists.specs.Lists.{fill}
use Rattle.lists.proofs.Fill.{fill_next}
use Rattle.laws.proofs.Slots.{round_one, round_most}
use Rattle.model.specs.Bus.{slot_ticks, slot_of, offset}
use Rattle.plan.specs.Memory.{lines}
use Rattle.plan.proofs.TestsOnLines.{slots_length}
use borrow.Author.Rules.{rules}
use Rattle.bus_timetable.specs.Bus.{reciprocal_of, ticks_of, timetable}
use Rattle.bus_timetable.proofs.TimetableOfModel.{kept, fits, short, before_none}
use Rattle.bus_timetable.proofs.of_plan.Goals as goal

pub loop-n-init : goal.loop-n-init
unfolding fill
loop-n-init c = search rules

pub overflow_cast-n : goal.overflow_cast-n
overflow_cast-n c = omega (arith, (fits c.args.p c.requires).slots, c.loop-n-test.true)

pub offset_bounds-offset-n : goal.offset_bounds-offset-n
offset_bounds-offset-n c = omega (arith, (fits c.args.p c.requires).slots, c.loop-n-test.true)

pub bounds-offset-n : goal.bounds-offset-n
bounds-offset-n c = omega (arith, (fits c.args.p c.requires).slots, c.loop-n-test.true)

pub slot_ticks-requires : goal.slot_ticks-requires
slot_ticks-requires c = (short c.args.p c.requires, c.find-place.ensures.room_most)

pub offset_bounds-ticks-n : goal.offset_bounds-ticks-n
offset_bounds-ticks-n c = omega (arith, (fits c.args.p c.requires).slots, c.loop-n-test.true)

pub bounds-ticks-n : goal.bounds-ticks-n
bounds-ticks-n c = omega (arith, (fits c.args.p c.requires).slots, c.loop-n-test.true)

pub offset_bounds-bytes-n : goal.offset_bounds-bytes-n
offset_bounds-bytes-n c = omega (arith, (fits c.args.p c.requires).slots, c.loop-n-test.true)

pub bounds-bytes-n : goal.bounds-bytes-n
bounds-bytes-n c = omega (arith, (fits c.args.p c.requires).slots, c.loop-n-test.true)

pub loop-n-preserved : goal.loop-n-preserved
unfolding lines slot_ticks
loop-n-preserved c =
    let p = lines c.args.p in
    let l = c.loop-n in
    let e = c.find-place.ensures in (
      fill_next 8 (offset p) l.n l.invariant.0 e.before,
      fill_next 8 (λ n. slot_ticks p (slot_of p n)) l.n l.invariant.1 (c.slot_ticks.ensures ∙ ap (ticks_of c.args.p.line) e.room),
      fill_next 8 (λ n. (slot_of p n).bytes) l.n l.invariant.2 e.room,
    )

pub find_reciprocal-requires : goal.find_reciprocal-requires
find_reciprocal-requires c =
    let p = lines c.args.p in
    let g = kept c.args.p c.requires in
    let e = c.find-round.ensures.before ∙ before_none c.args.p c.requires in
    (omega (arith, e, round_one p g), omega (arith, e, round_most p g))

pub returns : goal.returns
unfolding timetable
returns c =
    let p = lines c.args.p in
    let l = c.loop-n in
    let e = c.find-round.ensures.before ∙ before_none c.args.p c.requires in
    let q : l.n ≡ length p.slots = omega (arith, c.loop-n-test.false, slots_length c.args.p) in
    λ j.
    record {
      round = e j;
      reciprocal = (c.find_reciprocal.ensures ∙ ap reciprocal_of e) j;
      offset = (l.invariant.0 ∙ ap (fill 8 (offset p)) q) j;
      ticks = (l.invariant.1 ∙ ap (fill 8 (λ n. slot_ticks p (slot_of p n))) q) j;
      bytes = (l.invariant.2 ∙ ap (fill 8 (λ n. (slot_of p n).bytes)) q) j;
    }
