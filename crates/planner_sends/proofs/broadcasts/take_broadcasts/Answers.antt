-- `planner_sends::take_broadcasts` meets its contract: the members of the mask that is left, in the bytes left, give
-- the whole answer.
use mathlib.Core.Path.{◌≡◌, refl, sym, ap, ◌∙◌}
use Prim.Native.Nat.{ℕ, ◌+◌, ◌-◌, ◌<◌}
use native.Mathlib.Omega.{arith}
use lib.Dec.{ltb}
use lib.ListN.{length}
use Rattle.bitset.specs.Masks.{members}
use Rattle.log_rows.specs.Rows.{Rows, rows_of, put_place}
use Rattle.planner_sends.specs.Packing.{load, broadcast_all, all_broadcast}
use Rattle.planner_sends.proofs.RowsRest.{rows_rest}
use Rattle.planner_sends.proofs.Scan.{member_small, member_some, broadcast_next, broadcast_end}
use Rattle.planner_sends.proofs.broadcasts.take_broadcasts.Goals as goal
use Rattle.planner_sends.proofs.broadcasts.take_broadcasts.Goals.{After-lowest}

pub loop-used-init : goal.loop-used-init
loop-used-init c =
    let a = c.args in
    let s : Rows = rows_of a.rows.now in
    let z : a.room ≡ a.room - 0 = omega arith in (
      c.requires.0,
      omega arith,
      ap (λ (n : ℕ). broadcast_all a.conditionrow a.end n (members a.mask) (load 0 (ltb a.room (length (members a.mask))) s.comes s.place)) z,
      refl,
    )

pub lowest-requires : goal.lowest-requires
lowest-requires c =
    (member_some c.loop-used.m (omega (arith, c.loop-used-test.true, c.min-fits.ensures, c.how_many-n.ensures, c.loop-used.invariant.1)), c.loop-used.invariant.0)

-- the row of the broadcast is one of the rows
row_small : (c : After-lowest) → c.args.conditionrow + c.lowest.result < 198
row_small c =
    omega (arith, c.requires.1, member_small c.loop-used.m c.lowest.result c.lowest.ensures)

pub overflow_cast-r : goal.overflow_cast-r
overflow_cast-r c = omega (arith, row_small c)

pub overflow_add-r : goal.overflow_add-r
overflow_add-r c = omega (arith, row_small c)

pub put_comes-requires : goal.put_comes-requires
put_comes-requires c = omega (arith, row_small c.before)

pub put_place-requires : goal.put_place-requires
put_place-requires c = omega (arith, row_small c.before.before.before)

pub without_lowest-m-requires : goal.without_lowest-m-requires
without_lowest-m-requires c =
    (member_some c.loop-used.m (omega (arith, c.loop-used-test.true, c.min-fits.ensures, c.how_many-n.ensures, c.loop-used.invariant.1)), c.loop-used.invariant.0)

pub loop-used-preserved : goal.loop-used-preserved
loop-used-preserved c =
    let a = c.args in
    let x = c.without_lowest-m.ensures in
    let low = c.lowest in
    let row = a.conditionrow + low.result in
    let short = ltb a.room (length (members a.mask)) in
    let s : Rows = rows_of c.loop-used.rows in
    let stored = c.put_place.ensures ∙ ap (put_place row c.loop-used.used) c.put_comes.ensures in
    let less : c.loop-used.used < a.room = omega (arith, c.loop-used-test.true, c.min-fits.ensures) in (
      omega (arith, x.1, c.loop-used.invariant.0),
      omega (arith, c.loop-used.invariant.1, ap length low.ensures, ap length x.0),
      c.loop-used.invariant.2
          ∙ broadcast_next a.conditionrow a.end a.room c.loop-used.m low.result c.loop-used.used short s.comes s.place less low.ensures
          ∙ (λ j. broadcast_all a.conditionrow a.end (a.room - (c.loop-used.used + 1)) (sym x.0 j) (load (c.loop-used.used + 1) short (sym stored j).comes (sym stored j).place)),
      rows_rest (rows_of a.rows.now) _ ((λ j. (stored j).run) ∙ (λ j. (c.loop-used.invariant.3 j).run)) ((λ j. (stored j).unmet) ∙ (λ j. (c.loop-used.invariant.3 j).unmet)),
    )

pub returns : goal.returns
unfolding all_broadcast
returns c =
    let a = c.args in
    let s : Rows = rows_of c.loop-used.rows in
    let short = ltb a.room (length (members a.mask)) in
    let all : c.min-fits.result ≡ c.loop-used.used = omega (arith, c.loop-used-test.false, c.loop-used.auto.used-end) in
    record {
      taken =
          ap (λ (k : ℕ). load k (ltb a.room c.how_many-n.result) s.comes s.place) all
          ∙ ap (λ (n : ℕ). load c.loop-used.used (ltb a.room n) s.comes s.place) c.how_many-n.ensures
          ∙ sym (c.loop-used.invariant.2 ∙ broadcast_end a.conditionrow a.end a.room c.loop-used.m c.loop-used.used (length (members a.mask)) (load c.loop-used.used short s.comes s.place) c.loop-used.invariant.1 (omega (arith, c.loop-used-test.false, c.min-fits.ensures, c.how_many-n.ensures)));
      rest = c.loop-used.invariant.3;
    }
