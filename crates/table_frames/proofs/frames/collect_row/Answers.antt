-- `table_frames::collect_row` meets its contract: the frame that is still to be put and what is left of the row give
-- the whole.
use Rattle.table_frames.proofs.frames.collect_row.Goals.{then-x-y, else-x-y}
use mathlib.Core.List.{map}
use mathlib.Core.Path.{sym, ap, ◌∙◌}
use Prim.Native.Nat.{ℕ, max, ◌+◌, ◌-◌, ◌/◌, ◌≤◌}
use native.Mathlib.Omega.{arith}
use lib.ListN.{length, take}
use lib.Seq.{slice}
use Rattle.table_frames.specs.Packed.{entry_frame, in_order}
use Rattle.table_frames.proofs.Collecting.{row_left_start, row_left_joined, row_left_next, row_left_end, row_empty}
use Rattle.table_frames.proofs.frames.collect_row.Goals as goal

pub returns-then-to-from : goal.returns-then-to-from
returns-then-to-from c =
    let a = c.args in
    let p = c.requires in
    record { few = omega arith; long = p.4; holds = row_empty (entry_frame a.node a.bytes) a.list.now a.out.now a.from a.to a.n (omega (arith, p.1, p.3)) (omega (arith, p.0)) }

pub loop-i-init : goal.loop-i-init
loop-i-init c =
    let a = c.args in
    let p = c.requires in (
      row_left_start (entry_frame a.node a.bytes) a.list.now a.out.now a.from a.to a.n (omega (arith, p.1, p.3)) c.if-to-from.false p.4 p.5 c.frame-y.ensures.0,
      c.frame-y.ensures.1,
    )

pub add-m-requires : goal.add-m-requires
add-m-requires c =
    let p = c.requires in
    let v = c.loop-i.invariant in
    (v.1, omega (arith, p.2, v.0.room), v.0.long, v.0.ascends)

pub loop-i-preserved : goal.loop-i-preserved
loop-i-preserved c =
    let a = c.args in
    let p = c.requires in
    let v = c.loop-i.invariant in
    let inside : a.to ≤ length a.list.now = omega (arith, p.1, p.3) in
    elim c.if-x-y.branch [
      | then-x-y u ↦ (
        row_left_joined (entry_frame a.node a.bytes) a.list.now a.to
            (in_order (map (entry_frame a.node a.bytes) (slice a.from a.to a.list.now)) (take a.n a.out.now))
            (a.n + (a.to - a.from)) c.loop-i-test.true inside v.0 (ap (λ (k : ℕ). k / 1024) (sym c.frame-x.ensures.0) ∙ u.if-x-y.true) u.out-is u.m-is
            (u.y-is ∙ u.max-y.ensures ∙ ap (λ (k : ℕ). max k c.loop-i.y) c.frame-x.ensures.0),
        omega (arith, u.y-is, u.max-y.ensures, c.frame-x.ensures.1, v.1),
      )
      | else-x-y u ↦ (
        row_left_next (entry_frame a.node a.bytes) a.list.now a.to
            (in_order (map (entry_frame a.node a.bytes) (slice a.from a.to a.list.now)) (take a.n a.out.now))
            (a.n + (a.to - a.from)) c.loop-i-test.true inside p.2 v.0 u.add-m.ensures u.out-is u.m-is (u.y-is ∙ c.frame-x.ensures.0),
        omega (arith, u.y-is, c.frame-x.ensures.1),
      )
    ]

pub add-requires : goal.add-requires
add-requires c =
    let p = c.requires in
    let v = c.loop-i.invariant in
    (v.1, omega (arith, p.2, v.0.room), v.0.long, v.0.ascends)

pub returns : goal.returns
returns c =
    let a = c.args in
    let r =
    row_left_end (entry_frame a.node a.bytes) a.list.now a.to
    (in_order (map (entry_frame a.node a.bytes) (slice a.from a.to a.list.now)) (take a.n a.out.now))
    (a.n + (a.to - a.from)) c.loop-i-test.false c.requires.2 c.loop-i.invariant.0 c.add.ensures in
    record { few = r.0; long = r.1; holds = r.2 }
