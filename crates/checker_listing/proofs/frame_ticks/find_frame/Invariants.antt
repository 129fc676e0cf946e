-- `checker_listing::find_frame` meets its contract: before each turn the frames before `low` have smaller ticks, and
-- those from `high` on have not.
use Prim.Native.Nat.{ℕ, ◌≤◌, ◌<◌, ◌-◌, ◌*◌}
use lib.ListN.{length, get_or}
use Rattle.checker_listing.proofs.frame_ticks.find_frame.Given as goal

abbrev pub invariant-loop-low : goal.invariant-loop-low
invariant-loop-low l =
    (l.low ≤ l.high) × (3 * l.high ≤ length l.frames)
    × ((i : ℕ) → i < l.low → get_or l.frames (3 * i) 0 < l.tick)
    × ((i : ℕ) → l.high ≤ i → 3 * i < length l.frames → l.tick ≤ get_or l.frames (3 * i) 0)

abbrev pub decreases-loop-low : goal.decreases-loop-low
decreases-loop-low l = l.high - l.low
