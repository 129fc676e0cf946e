-- `checker_listing::ticks_ascend` meets its contract: before turn k the first k frames are in order.
use native.Mathlib.Omega.{arith}
use Rattle.checker_listing.proofs.Told.{told, denied}
use Rattle.checker_listing.proofs.TickTurns.{ascend_next, not_ascending}
use Rattle.checker_listing.proofs.frame_ticks.ticks_ascend.Goals as goal

pub loop-k-init : goal.loop-k-init
loop-k-init c = (omega arith, λ i j l u. absurd (omega arith))

pub returns-then-frames-k : goal.returns-then-frames-k
returns-then-frames-k c =
    denied (not_ascending c.args.frames.now c.loop-k.k c.loop-k.invariant.0 (omega (arith, c.requires, c.loop-k-test.true)) c.if-frames-k.true)

pub loop-k-preserved : goal.loop-k-preserved
loop-k-preserved c =
    (omega arith, ascend_next c.args.frames.now c.loop-k.k c.loop-k.invariant.0 c.loop-k.invariant.1 c.if-frames-k.false)

pub returns : goal.returns
returns c =
    told (λ i j u v. c.loop-k.invariant.1 i j u (omega (arith, c.requires, c.loop-k-test.false)))
