-- `bus_timetable::of_plan` meets its contract: before turn n the first n of each array are filled.
use mathlib.Core.Path.{◌≡◌}
use Rattle.lists.specs.Lists.{fill}
use Rattle.model.specs.Bus.{slot_ticks, slot_of, offset}
use Rattle.plan.specs.Memory.{lines}
use Rattle.bus_timetable.proofs.of_plan.Given as goal

abbrev pub invariant-loop-n : goal.invariant-loop-n
invariant-loop-n l =
    let p = lines l.fn.p in
    (l.offset ≡ fill 8 (offset p) l.n) × (l.ticks ≡ fill 8 (λ n. slot_ticks p (slot_of p n)) l.n) × (l.bytes ≡ fill 8 (λ n. (slot_of p n).bytes) l.n)
