-- `checker_listing::all_filled` meets its contract: before turn k the first k frames are marked.
use Prim.Native.Nat.{◌≤◌}
use Rattle.checker_listing.specs.FrameList.{AllMarked}
use Rattle.checker_listing.proofs.frames.all_filled.Given as goal

abbrev pub invariant-loop-k : goal.invariant-loop-k
invariant-loop-k l = (l.k ≤ l.count) × AllMarked l.filled l.k
