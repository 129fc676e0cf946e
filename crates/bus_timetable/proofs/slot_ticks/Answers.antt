-- `bus_timetable::slot_ticks` meets its contract: the product fits, since a slot lasts at most so many ticks.
use mathlib.Core.Path.{refl}
use native.Mathlib.Omega.{arith}
use Rattle.bus_timetable.proofs.TicksMost.{ticks_most}
use Rattle.bus_timetable.proofs.slot_ticks.Goals as goal

pub returns : goal.returns
returns c = refl

pub overflow_add-result : goal.overflow_add-result
overflow_add-result c = let h = c.requires.0.head in omega arith

pub overflow_mul-result : goal.overflow_mul-result
overflow_mul-result c = let l = ticks_most c.requires.0 c.args.bytes c.requires.1 in omega arith
