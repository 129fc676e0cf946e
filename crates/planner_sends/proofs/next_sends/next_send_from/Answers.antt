-- `planner_sends::next_send_from` meets its contract: the first beginning where an item is pending, and no event
-- where none is.
use mathlib.Core.Path.{ap}
use Prim.Native.Nat.{ℕ, ◌+◌}
use native.Mathlib.Omega.{arith}
use Rattle.bus_timetable.proofs.Beginnings.{beginning_most}
use Rattle.planner_sends.specs.NextSends.{next_send_from}
use Rattle.planner_sends.proofs.next_sends.next_send_from.Goals as goal

pub overflow_add-result : goal.overflow_add-result
overflow_add-result c =
    let a = c.args in
    omega (arith, c.first_beginning.ensures, beginning_most a.round a.offset a.tick, c.requires.1, c.requires.2, c.requires.3)

pub returns-then-pending : goal.returns-then-pending
unfolding next_send_from
returns-then-pending c = rw c.if-pending.true (ap (λ (v : ℕ). v + 1) c.first_beginning.ensures)

pub returns-else-pending : goal.returns-else-pending
unfolding next_send_from
returns-else-pending c = rw c.if-pending.false
