-- `planner_sends::current_round` meets its contract: the carried beginning is carried on by the plan's round and its
-- reciprocal.
use mathlib.Core.Path.{sym, ap, ◌∙◌, subst}
use Prim.Native.Nat.{ℕ, ◌-◌}
use native.Mathlib.Omega.{arith}
use Rattle.bus_timetable.specs.Bus.{round_beginning_at, reciprocal_of, Carried}
use Rattle.planner_sends.proofs.next_sends.current_round.Goals as goal

pub round_beginning-requires : goal.round_beginning-requires
round_beginning-requires c =
    let a = c.args in
    let t = c.requires.2 in
    let e = c.round_of.ensures in
    (omega (arith, e, t.round_one), c.reciprocal_of.ensures ∙ t.reciprocals ∙ ap reciprocal_of (sym e), omega (arith, c.requires.1), subst (λ (x : ℕ). Carried x a.begun (a.u - 1)) (sym e) c.requires.3)

pub returns : goal.returns
returns c =
    c.round_beginning.ensures ∙ ap (λ (x : ℕ). round_beginning_at x (c.args.u - 1)) c.round_of.ensures
