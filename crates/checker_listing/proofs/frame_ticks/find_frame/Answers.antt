-- `checker_listing::find_frame` meets its contract: before each turn the frames before `low` have smaller ticks, and
-- those from `high` on have not.
use mathlib.Core.Path.{◌≡◌}
use Prim.Native.Nat.{ℕ, ◌≤◌, ◌<◌, ◌+◌, ◌-◌, ◌*◌, ◌/◌}
use native.Mathlib.Omega.{arith}
use lib.ListN.{get_or}
use Rattle.checker_listing.proofs.TickTurns.{lower_half, upper_half}
use Rattle.checker_listing.proofs.frame_ticks.find_frame.Goals as goal

pub loop-low-init : goal.loop-low-init
loop-low-init c = (omega arith, omega arith, λ i l. absurd (omega arith), λ i l u. absurd (omega arith))

pub loop-low-preserved-then-frames-middle : goal.loop-low-preserved-then-frames-middle
loop-low-preserved-then-frames-middle c =
    let h = c.loop-low.invariant in
    let m : ℕ = c.loop-low.low + (c.loop-low.high - c.loop-low.low) / 2 in
    let t : get_or c.args.frames.now (3 * m) 0 < c.args.tick = c.if-frames-middle.true in
    let less : c.loop-low.low < c.loop-low.high = c.loop-low-test.true in (
      omega arith,
      h.1,
      lower_half c.args.frames.now c.requires.fact_2 c.args.tick m (omega (arith, h.1)) t,
      h.3,
    )

pub loop-low-preserved : goal.loop-low-preserved
loop-low-preserved c =
    let h = c.loop-low.invariant in
    let m : ℕ = c.loop-low.low + (c.loop-low.high - c.loop-low.low) / 2 in
    let t : c.args.tick ≤ get_or c.args.frames.now (3 * m) 0 = c.if-frames-middle.false in
    let less : c.loop-low.low < c.loop-low.high = c.loop-low-test.true in (
      omega arith,
      omega (arith, h.1),
      h.2,
      upper_half c.args.frames.now c.requires.fact_2 c.args.tick m t,
    )

pub returns : goal.returns
returns c =
    let h = c.loop-low.invariant in
    let q : c.loop-low.low ≡ c.loop-low.high = omega (arith, h.0, c.loop-low-test.false) in
    record {
      within = omega (arith, h.1);
      smaller = h.2;
      others = λ i u v. h.3 i (omega arith) v;
    }
