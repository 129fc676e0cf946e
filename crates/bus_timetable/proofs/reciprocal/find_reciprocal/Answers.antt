-- `bus_timetable::reciprocal::find_reciprocal` meets its contract: after turn i the share is that of 2^i - 1 ticks.
use mathlib.Core.Path.{◌≡◌, sym, ap, ◌∙◌, subst}
use Prim.Native.Nat.{ℕ, ◌+◌, ◌-◌, ◌/◌, ◌^◌, ◌≤◌}
use native.Mathlib.Nat.{mod-lt, div-le_self, two-pow-succ, pow-le-pow_right, one-le-pow, zero-div, zero-mod}
use native.Mathlib.Omega.{arith}
use Rattle.bus_timetable.specs.Bus.{Shared, reciprocal_of}
use Rattle.bus_timetable.proofs.reciprocal.find_reciprocal.Goals as goal

pub loop-turn-init : goal.loop-turn-init
loop-turn-init c = (omega arith, record { whole = sym (zero-div _); rest = sym (zero-mod _) })

pub doubled-s-requires : goal.doubled-s-requires
doubled-s-requires c =
    let a = c.args in
    let l = c.loop-turn in
    let p = c.requires in
    let k : 2 ^ l._turn ≤ 1073741824 = pow-le-pow_right {n = 2} (omega arith) {i = l._turn} {j = 30} (omega (arith, c.loop-turn-test)) in
    (omega (arith, l.invariant.1.rest, mod-lt (2 ^ l._turn - 1) p.0), p.1, omega (arith, l.invariant.1.whole, div-le_self (2 ^ l._turn - 1) a.round, k, one-le-pow l._turn 2 (omega arith)))

pub loop-turn-preserved : goal.loop-turn-preserved
loop-turn-preserved c =
    let a = c.args in
    let l = c.loop-turn in
    let v : ℕ = 2 ^ l._turn - 1 in
    let p : 2 ^ (l._turn + 1) ≡ 2 ^ l._turn + 2 ^ l._turn = ap (λ (z : ℕ). 2 ^ z) (omega arith) ∙ two-pow-succ l._turn in
    let e : v + v + 1 ≡ 2 ^ (l._turn + 1) - 1 = omega (arith, p, one-le-pow l._turn 2 (omega arith)) in
    (omega (arith, c.loop-turn-test), subst (λ (z : ℕ). Shared a.round z c.doubled-s.result) e (c.doubled-s.ensures v l.invariant.1))

pub returns : goal.returns
unfolding reciprocal_of
returns c =
    let l = c.loop-turn in
    let e : l._turn ≡ 31 = omega (arith, l.invariant.0, c.loop-turn-test) in
    l.invariant.1.whole ∙ ap (λ (z : ℕ). (2 ^ z - 1) / c.args.round) e
