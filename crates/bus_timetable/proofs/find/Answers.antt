-- `bus_timetable::find` meets its contract: the sum so far and what is left of the slots give the whole answer.
use mathlib.Core.Path.{◌≡◌, sym, ap, ◌∙◌}
use mathlib.Core.List.{List, [], ◌∷◌, map}
use Prim.Native.Nat.{ℕ, ◌+◌, ◌≤◌, ◌<◌}
use native.Mathlib.Numerals.{add-one}
use native.Mathlib.Omega.{arith}
use lib.ListN.{length, get_or, drop, get_or-map, length-map, drop_of_length-le}
use borrow.Author.Tests.{eq-eqb, ne_eqb}
use Rattle.std.proofs.Math.Seq.{drop-cons}
use Rattle.model.specs.Plan.{Lines}
use Rattle.model.specs.Plan as m
use Rattle.model.specs.Bus.{slot_among, slot_of, offset_among, offset}
use Rattle.plan.specs.declared.Slot.{Slot}
use Rattle.plan.specs.Memory.{no_slot, lines}
use Rattle.plan.specs.Memory as held
use Rattle.plan.proofs.TestsOnLines.{slots_length}
use Rattle.bus_timetable.proofs.TicksMost.{ticks_most}
use Rattle.bus_timetable.proofs.TimetableOfModel.{ticks_same, fits, short, small}
use Rattle.bus_timetable.proofs.find.Goals as goal

-- the slots from place i on, of which the first is in memory
module _ (p : Lines) (ss : List Slot) (q : map held.slot_of ss ≡ p.slots) (i : ℕ) where
  inside : i < length ss → i < length p.slots
  inside l = omega (arith, l, length-map ss held.slot_of, ap length q)

  ahead : i < length ss → drop i p.slots ≡ held.slot_of (get_or ss i no_slot) ∷ drop (i + 1) p.slots
  ahead l =
      let e : get_or p.slots i (held.slot_of no_slot) ≡ held.slot_of (get_or ss i no_slot) =
      ap (λ (xs : List m.Slot). get_or xs i (held.slot_of no_slot)) (sym q) ∙ get_or-map held.slot_of ss i no_slot in
      drop-cons p.slots i (held.slot_of no_slot) (inside l) ∙ rw (e, add-one)

  none_left : length ss ≤ i → drop i p.slots ≡ []
  none_left l = drop_of_length-le p.slots (omega (arith, l, length-map ss held.slot_of, ap length q))

pub slot_lines-s-items-requires : goal.slot_lines-s-items-requires
slot_lines-s-items-requires c = fits c.args.p.now c.requires

pub returns-then-s-node-clause-before : goal.returns-then-s-node-clause-before
unfolding offset offset_among
returns-then-s-node-clause-before c =
    let p = lines c.args.p.now in
    let l = c.loop-s in
    let e = ahead p _ c.slot_lines-s-items.ensures l.s-index c.loop-s-test.true in
    let z : offset_among p (drop l.s-index p.slots) c.args.node ≡ 0 = rw (e, eq-eqb _ _ c.if-s-node.true) in
    omega (arith, l.invariant.1, z)

pub returns-then-s-node-clause-room : goal.returns-then-s-node-clause-room
unfolding slot_of slot_among
returns-then-s-node-clause-room c =
    let p = lines c.args.p.now in
    let l = c.loop-s in
    let e = ahead p _ c.slot_lines-s-items.ensures l.s-index c.loop-s-test.true in
    let z : slot_among (drop l.s-index p.slots) c.args.node ≡ held.slot_of (get_or c.slot_lines-s-items.result.now l.s-index no_slot) = rw (e, eq-eqb _ _ c.if-s-node.true) in
    sym (ap (λ (s : m.Slot). s.bytes) (l.invariant.2 ∙ z))

pub returns-then-s-node-clause-room_most : goal.returns-then-s-node-clause-room_most
returns-then-s-node-clause-room_most c = small c.args.p.now c.requires _ c.slot_lines-s-items.ensures c.loop-s.s-index c.loop-s-test.true

pub slot_ticks-sum-requires : goal.slot_ticks-sum-requires
slot_ticks-sum-requires c =
    let p = c.args.p.now in
    (short p c.requires, small p c.requires _ c.slot_lines-s-items.ensures c.loop-s.s-index c.loop-s-test.true)

pub overflow_add-sum : goal.overflow_add-sum
overflow_add-sum c =
    let p = c.args.p.now in
    let q = c.slot_lines-s-items.ensures in
    let l = c.loop-s in
    let t = c.loop-s-test.true in
    let few = (fits p c.requires).slots in
    let most = ticks_most (short p c.requires) _ (small p c.requires _ q l.s-index t) in
    omega (arith, l.invariant.0, most, c.slot_ticks-sum.ensures, inside (lines p) _ q l.s-index t, slots_length p, few)

pub loop-s-preserved : goal.loop-s-preserved
unfolding offset_among slot_among
loop-s-preserved c =
    let p = c.args.p.now in
    let q = c.slot_lines-s-items.ensures in
    let l = c.loop-s in
    let t = c.loop-s-test.true in
    let n = ne_eqb _ _ c.if-s-node.false in
    let e = ahead (lines p) _ q l.s-index t in
    let most = ticks_most (short p c.requires) _ (small p c.requires _ q l.s-index t) in
    let step : offset_among (lines p) (drop l.s-index (lines p).slots) c.args.node ≡ c.slot_ticks-sum.result + offset_among (lines p) (drop (l.s-index + 1) (lines p).slots) c.args.node =
    rw (e, n) (ap (λ (k : ℕ). k + offset_among (lines p) (drop (l.s-index + 1) (lines p).slots) c.args.node) (ticks_same p _ ∙ sym c.slot_ticks-sum.ensures)) in
    (omega (arith, most, l.invariant.0, c.slot_ticks-sum.ensures), omega (arith, l.invariant.1, step), l.invariant.2 ∙ rw (e, n))

pub returns-clause-before : goal.returns-clause-before
unfolding offset offset_among
returns-clause-before c =
    let p = lines c.args.p.now in
    let l = c.loop-s in
    let e = none_left p _ c.slot_lines-s-items.ensures l.s-index c.loop-s-test.false in
    let z : offset_among p (drop l.s-index p.slots) c.args.node ≡ 0 = rw e in
    omega (arith, l.invariant.1, z)

pub returns-clause-room : goal.returns-clause-room
unfolding slot_of slot_among
returns-clause-room c =
    let p = lines c.args.p.now in
    let l = c.loop-s in
    let e = none_left p _ c.slot_lines-s-items.ensures l.s-index c.loop-s-test.false in
    let z : slot_among (drop l.s-index p.slots) c.args.node ≡ record { node = c.args.node; bytes = 0 } = rw e in
    sym (ap (λ (s : m.Slot). s.bytes) (l.invariant.2 ∙ z))
