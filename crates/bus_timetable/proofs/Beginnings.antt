-- How early and how late the first beginning of a slot at or after a tick may be.
-- Assumes nothing.
use Rattle.std.specs.Prelude.{if◌then◌else◌}
use Prim.Native.Nat.{ℕ, ◌+◌, ◌-◌, ◌%◌, ◌≤◌}
use mathlib.Core.Path.{◌≡◌, refl}
use mathlib.Core.Bool.{Bool, true, false}
use native.Mathlib.Nat.{mod-le, mod-lt}
use native.Mathlib.Omega.{arith}
use lib.Dec.{leb}
use borrow.Author.Tests.{leb-true}
use Rattle.bus_timetable.specs.Bus.{beginning_at}

-- it is not before the tick
pub beginning_from : (round offset t : ℕ) → 1 ≤ round → t ≤ beginning_at round offset t
unfolding beginning_at
beginning_from round offset t l = at (leb (t % round) offset) refl
  where
    at : (q : Bool) → leb (t % round) offset ≡ q → t ≤ (t - t % round) + (if q then offset else round + offset)
    at true e = let z : t % round ≤ offset = leb-true (t % round) offset e in omega (arith, z, mod-le t round)
    at false e = omega (arith, mod-le t round, mod-lt t l)

-- it is not after the tick by more than a round and the offset
pub beginning_most : (round offset t : ℕ) → beginning_at round offset t ≤ (t + round) + offset
unfolding beginning_at
beginning_most round offset t = at (leb (t % round) offset)
  where
    at : (q : Bool) → (t - t % round) + (if q then offset else round + offset) ≤ (t + round) + offset
    at true = omega arith
    at false = omega arith
