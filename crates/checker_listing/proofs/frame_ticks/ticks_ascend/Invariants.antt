-- `checker_listing::ticks_ascend` meets its contract: before turn k the first k frames are in order.
use Prim.Native.Nat.{◌≤◌}
use Rattle.checker_listing.proofs.TickTurns.{FirstAscend}
use Rattle.checker_listing.proofs.frame_ticks.ticks_ascend.Given as goal

abbrev pub invariant-loop-k : goal.invariant-loop-k
invariant-loop-k l = (1 ≤ l.k) × FirstAscend l.frames l.k
