-- `bus_timetable::reciprocal::find_reciprocal` meets its contract: after turn i the share is that of 2^i - 1 ticks.
use Prim.Native.Nat.{◌-◌, ◌^◌, ◌≤◌}
use Rattle.bus_timetable.specs.Bus.{Shared}
use Rattle.bus_timetable.proofs.reciprocal.find_reciprocal.Given as goal

abbrev pub invariant-loop-turn : goal.invariant-loop-turn
invariant-loop-turn l = (l._turn ≤ 31) × Shared l.round (2 ^ l._turn - 1) l.s
