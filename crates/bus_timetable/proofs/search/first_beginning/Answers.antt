-- `bus_timetable::search::first_beginning` meets its contract: the ticks gone in the round are those since `begun`.
use Prim.Native.Nat.{◌%◌, ◌≤◌, ◌<◌}
use native.Mathlib.Nat.{mod-le}
use native.Mathlib.Omega.{arith}
use borrow.Author.Tests.{le-leb, lt-leb}
use Rattle.bus_timetable.specs.Bus.{beginning_at, round_beginning_at}
use Rattle.bus_timetable.proofs.search.first_beginning.Goals as goal

pub overflow_sub-gone : goal.overflow_sub-gone
unfolding round_beginning_at
overflow_sub-gone c = omega (arith, c.requires.4)

pub overflow_add-result : goal.overflow_add-result
unfolding round_beginning_at
overflow_add-result c = omega (arith, c.requires)

pub returns-then-gone-offset : goal.returns-then-gone-offset
unfolding beginning_at round_beginning_at
returns-then-gone-offset c =
    let a = c.args in
    let e = c.requires.4 in
    let l : a.tick % a.round ≤ a.offset = omega (arith, e, mod-le a.tick a.round) in
    rw (le-leb _ _ l) (omega (arith, e))

pub overflow_add-result-3 : goal.overflow_add-result-3
unfolding round_beginning_at
overflow_add-result-3 c = omega (arith, c.requires)

pub returns : goal.returns
unfolding beginning_at round_beginning_at
returns c =
    let a = c.args in
    let e = c.requires.4 in
    let l : a.offset < a.tick % a.round = omega (arith, e, mod-le a.tick a.round) in
    rw (lt-leb _ _ l) (omega (arith, e))
