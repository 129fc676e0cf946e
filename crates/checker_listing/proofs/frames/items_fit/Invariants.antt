-- `checker_listing::items_fit` meets its contract: before turn i the items among the first i entries have their frames,
-- and the frames that they fill are marked.
use Prim.Native.Nat.{◌≤◌}
use Rattle.plan_index.specs.Index.{laid}
use Rattle.checker_listing.proofs.Going.{Going}
use Rattle.checker_listing.proofs.frames.items_fit.Given as goal

abbrev pub invariant-loop-i : goal.invariant-loop-i
invariant-loop-i l = (l.i ≤ l.count) × Going (laid l.index) l.table l.frames l.i l.filled
