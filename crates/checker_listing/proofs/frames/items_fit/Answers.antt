-- `checker_listing::items_fit` meets its contract: before turn i the items among the first i entries have their frames,
-- and the frames that they fill are marked.
use mathlib.Core.Path.{◌≡◌, refl, sym, subst}
use Rattle.checker_listing.proofs.frames.items_fit.Goals.{then-processes-wide+else-not-fit_item, else-processes-wide}
use mathlib.Core.Bool.{true}
use mathlib.Core.List.{List}
use Prim.Native.Nat.{ℕ, ◌+◌, ◌*◌, ◌≤◌, ◌<◌}
use native.Mathlib.Omega.{arith}
use lib.ListN.{length}
use borrow.Author.Tests.{not-true, not-false}
use Rattle.plan_index.specs.Index.{laid}
use Rattle.checker_listing.specs.Filling.{FramedIn, Item_at}
use Rattle.checker_listing.proofs.Told.{denied}
use Rattle.checker_listing.proofs.Going.{Going, going_start, going_process, going_item, going_fits, fits_going}
use Rattle.checker_listing.proofs.frames.items_fit.Goals as goal

pub processes_of-processes-requires : goal.processes_of-processes-requires
processes_of-processes-requires c = c.requires.fact_1.bounded

pub loop-i-init : goal.loop-i-init
loop-i-init c =
    let a = c.args in
    (omega arith, going_start (laid a.index.now) a.table.now a.frames.now refl)

pub item_frame-item-requires : goal.item_frame-item-requires
item_frame-item-requires c =
    let t = c.requires.fact_1 in
    let room : 5 * c.loop-i.i < length c.args.table.now = omega (arith, c.loop-i-test.true) in
    (omega (arith, room, t.fives), t.rows c.loop-i.i room, t.places c.loop-i.i room, t.bounded)

pub fit_item-requires : goal.fit_item-requires
fit_item-requires c = record { fact_1 = c.requires.fact_2; fact_2 = c.loop-i.invariant.1.long }

pub returns-then-not-fit_item : goal.returns-then-not-fit_item
returns-then-not-fit_item c =
    let room : 5 * c.loop-i.i < length c.args.table.now = omega (arith, c.loop-i-test.true) in
    let a : Item_at (laid c.args.index.now) c.args.table.now c.loop-i.i = record { there = room; high = omega (arith, c.if-processes-wide.true, c.wide.ensures, c.processes_of-processes.ensures.0) } in
    denied (λ h. c.fit_item.ensures.fact_1.1 (not-true _ c.if-not-fit_item.true-raw) (subst (FramedIn c.args.frames.now) (sym c.item_frame-item.ensures) (h.framed c.loop-i.i a)))

pub loop-i-preserved : goal.loop-i-preserved
loop-i-preserved c =
    let b = laid c.args.index.now in
    let table : List ℕ = c.args.table.now in
    let frames : List ℕ = c.args.frames.now in
    let i : ℕ = c.loop-i.i in
    let room : 5 * i < length table = omega (arith, c.loop-i-test.true) in (
      omega (arith, c.loop-i-test.true),
      elim c.if-processes-wide.branch [
        | then-processes-wide+else-not-fit_item w ↦
            let fits : w.fit_item.result ≡ true = not-false _ w.if-not-fit_item.false-raw in
            let a : Item_at b table i = record { there = room; high = omega (arith, w.if-processes-wide.true, c.wide.ensures, c.processes_of-processes.ensures.0) } in
            subst (Going b table frames (i + 1)) (sym w.filled-is) (going_item b table frames i w.item_frame-item.ensures a (w.fit_item.ensures.fact_1.0 fits) (w.fit_item.ensures.fact_2 fits) c.loop-i.invariant.1)
        | else-processes-wide w ↦ subst (Going b table frames (i + 1)) (sym w.filled-is) (going_process b table frames i (omega (arith, w.if-processes-wide.false, c.wide.ensures, c.processes_of-processes.ensures.0)) c.loop-i.invariant.1)
      ],
    )

pub all_filled-requires : goal.all_filled-requires
all_filled-requires c =
    omega (arith, c.requires.fact_2.few)

pub returns : goal.returns
returns c =
    let b = laid c.args.index.now in
    let all : length c.args.table.now ≤ 5 * c.loop-i.i = omega (arith, c.loop-i-test.false, c.requires.fact_1.fives) in
    let g = c.loop-i.invariant.1 in
    let t = c.all_filled.ensures in (
      λ e. going_fits b c.args.table.now c.args.frames.now c.loop-i.i c.loop-i.filled all g c.requires.fact_2.threes (t.0 e),
      λ e h. t.1 e (fits_going b c.args.table.now c.args.frames.now c.loop-i.i c.loop-i.filled all g h),
    )
