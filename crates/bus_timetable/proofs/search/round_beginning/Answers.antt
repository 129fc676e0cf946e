-- `bus_timetable::search::round_beginning` meets its contract: the rounds that are added are those in the gap, or one
-- less.
use mathlib.Core.Path.{◌≡◌, ap, ◌∙◌}
use Prim.Native.Nat.{ℕ, ◌+◌, ◌-◌, ◌*◌, ◌/◌, ◌≤◌, ◌<◌}
use native.Mathlib.Omega.{arith}
use Rattle.bus_timetable.specs.Bus.{Carried, reciprocal_of}
use Rattle.bus_timetable.proofs.Rounds.{beginning_is, carried_on, carried_next, reciprocal_small, near_most, near_least}
use Rattle.bus_timetable.proofs.search.round_beginning.Goals as goal

pub overflow_sub-gap : goal.overflow_sub-gap
overflow_sub-gap c = c.requires.3.by

pub returns-then-gap-round : goal.returns-then-gap-round
returns-then-gap-round c =
    let a = c.args in
    let e = c.requires.3 in
    beginning_is a.round a.begun a.tick e (omega (arith, e.by))

pub rounds_in-requires : goal.rounds_in-requires
rounds_in-requires c =
    let a = c.args in
    let e = c.requires in
    (omega (arith, e.2), omega (arith, e.1, reciprocal_small a.round 0 e.0 (omega arith)))

-- the rounds that are added: they lie in the gap, and two more do not
module _ (R m b t n : ℕ) (pos : 0 < R) (e : m ≡ reciprocal_of R) (few : t < 2147483648) (c : Carried R b t) (q : n ≡ (t - b) * m / 2147483648) where
  same : n ≡ (t - b) * reciprocal_of R / 2147483648
  same = q ∙ ap (λ (z : ℕ). (t - b) * z / 2147483648) e

  near : b + n * R ≤ t
  near = omega (arith, c.by, ap (λ (z : ℕ). z * R) same, near_most R (t - b) pos (omega (arith, few)))

  far : t < b + n * R + R + R
  far = omega (arith, c.by, ap (λ (z : ℕ). z * R) same, near_least R (t - b) pos (omega (arith, few)))

pub overflow_mul-near : goal.overflow_mul-near
overflow_mul-near c =
    let a = c.args in
    let e = c.requires in
    omega (arith, e.2, near a.round a.reciprocal a.begun a.tick c.rounds_in.result e.0 e.1 e.2 e.3 c.rounds_in.ensures)

pub overflow_add-near : goal.overflow_add-near
overflow_add-near c =
    let a = c.args in
    let e = c.requires in
    omega (arith, e.2, near a.round a.reciprocal a.begun a.tick c.rounds_in.result e.0 e.1 e.2 e.3 c.rounds_in.ensures)

pub overflow_sub-tick : goal.overflow_sub-tick
overflow_sub-tick c =
    let a = c.args in
    let e = c.requires in
    near a.round a.reciprocal a.begun a.tick c.rounds_in.result e.0 e.1 e.2 e.3 c.rounds_in.ensures

pub returns-then-tick-near : goal.returns-then-tick-near
returns-then-tick-near c =
    let a = c.args in
    let e = c.requires in
    let n = c.rounds_in in
    let l = near a.round a.reciprocal a.begun a.tick n.result e.0 e.1 e.2 e.3 n.ensures in
    beginning_is a.round (a.begun + n.result * a.round) a.tick (carried_on a.round a.begun n.result a.tick e.3 l) (omega (arith, l))

pub returns : goal.returns
returns c =
    let a = c.args in
    let e = c.requires in
    let n = c.rounds_in in
    let l = near a.round a.reciprocal a.begun a.tick n.result e.0 e.1 e.2 e.3 n.ensures in
    let f = far a.round a.reciprocal a.begun a.tick n.result e.0 e.1 e.2 e.3 n.ensures in
    let k = carried_on a.round a.begun n.result a.tick e.3 l in
    beginning_is a.round (a.begun + n.result * a.round + a.round) a.tick (carried_next a.round (a.begun + n.result * a.round) a.tick k (omega (arith, l))) f
