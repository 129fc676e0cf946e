-- How long a slot can be, by the plan line and its bytes.
-- Assumes nothing.
use Prim.Native.Nat.{ℕ, ◌+◌, ◌≤◌}
use native.Mathlib.Nat.{mul-le-mul}
use native.Mathlib.Omega.{arith}
use Rattle.limits.specs.Limits.{BYTES, SLOTTICKS}
use Rattle.plan.specs.declared.PlanLine.{PlanLine}
use Rattle.bus_timetable.specs.Bus.{ticks_of, Short}

pub ticks_most : {line : PlanLine} → Short line → (bytes : ℕ) → bytes ≤ BYTES → ticks_of line bytes ≤ SLOTTICKS
ticks_most {line} s bytes l =
    let k : bytes + line.head ≤ 80 = omega (arith, s.head) in
    mul-le-mul k s.byte
