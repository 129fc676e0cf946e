-- `bus_timetable::reciprocal::doubled` meets its contract.
use Prim.Native.Nat.{◌+◌, ◌%◌, ◌≤◌, ◌<◌}
use native.Mathlib.Omega.{arith}
use Rattle.bus_timetable.proofs.Rounds.{doubled_within, doubled_past}
use Rattle.bus_timetable.proofs.reciprocal.doubled.Goals as goal

pub returns-then-rest-round : goal.returns-then-rest-round
returns-then-rest-round c = λ v h.
    let a = c.args in
    let l : v % a.round + v % a.round + 1 < a.round = omega (arith, h.rest) in
    let d = doubled_within a.round v (omega (arith, l)) l in
    record { whole = omega (arith, h.whole, d.0); rest = omega (arith, h.rest, d.1) }

pub returns : goal.returns
returns c = λ v h.
    let a = c.args in
    let l : a.round ≤ v % a.round + v % a.round + 1 = omega (arith, h.rest) in
    let d = doubled_past a.round v (omega (arith, c.requires)) l in
    record { whole = omega (arith, h.whole, d.0); rest = omega (arith, h.rest, d.1) }
