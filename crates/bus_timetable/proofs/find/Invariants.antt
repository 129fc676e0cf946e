-- `bus_timetable::find` meets its contract: the sum so far and what is left of the slots give the whole answer.
use mathlib.Core.Path.{◌≡◌}
use Prim.Native.Nat.{◌+◌, ◌*◌, ◌≤◌}
use lib.ListN.{drop}
use Rattle.limits.specs.Limits.{SLOTTICKS}
use Rattle.model.specs.Bus.{offset_among, slot_among}
use Rattle.plan.specs.Memory.{lines}
use Rattle.bus_timetable.proofs.find.Given as goal

abbrev pub invariant-loop-s : goal.invariant-loop-s
invariant-loop-s l =
    let p = lines l.p in
    (l.sum ≤ SLOTTICKS * l.s-index) × (offset_among p p.slots l.node ≡ l.sum + offset_among p (drop l.s-index p.slots) l.node)
    × (slot_among p.slots l.node ≡ slot_among (drop l.s-index p.slots) l.node)
