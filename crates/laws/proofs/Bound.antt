-- The bound on planning: no delay exceeds it, from it on nothing changes, and how large it can be.
-- Assumes nothing.
use Rattle.std.specs.Prelude.{if◌then◌else◌}
use mathlib.Core.Path.{◌≡◌, sym, ap, ◌∙◌, subst}
use mathlib.Core.Bool.{Bool, true, false}
use mathlib.Core.List.{List, Memᴰ as In}
use Prim.Native.Nat.{ℕ, zero, suc, ◌+◌, ◌*◌, ◌≤◌, ◌<◌}
use native.Mathlib.Nat.{add-zero, add-suc, mul-le-mul}
use native.Mathlib.Omega.{arith}
use lib.ListN.{length, get_or}
use Rattle.limits.specs.Limits.{ROUNDTICKS, DELAY}
use Rattle.lists.specs.Lists.{sum}
use Rattle.lists.proofs.Tests.{clash}
use Rattle.lists.proofs.Members.{no_members}
use Rattle.lists.proofs.Sums.{greatest_le, sum_most}
use Rattle.model.specs.Plan.{Lines}
use Rattle.model.specs.Bus.{is_process, rows, transit, round}
use Rattle.model.specs.Log.{Placed, placed, full_ticks, span, process_end, delay}
use Rattle.model.specs.Planning.{View, view, State, before, bound, planned}
use Rattle.model.specs.Refusals.{nothing, plan_refusal}
use Rattle.model.specs.Checking.{due}
use Rattle.laws.proofs.Good.{Good, good}
use Rattle.laws.proofs.OnlyDue.{started_due, pending_due, only_due}
use Rattle.laws.proofs.Progress.{everything_over, over_by_bound}
use Rattle.laws.proofs.UnchangedTicks.{idle_step}
use Rattle.laws.proofs.Rows.{in_placed, full_tick, full_length}
use Rattle.laws.proofs.Slots.{round_most}
use Rattle.laws.proofs.Steps.{pending_fresh, pending_in, starts_in, log_at, view_at}

module _ (p : Lines) (c : List Bool) (passes : plan_refusal p ≡ nothing) (count : length c ≡ length p.conditions) where
  abbrev g : Good p
  g = good p passes

  pub delay_within : delay p (full_ticks p) (planned p c).log ≤ bound p
  unfolding delay process_end span
  delay_within = greatest_le (process_end p (full_ticks p)) (bound p) (planned p c).log (λ x m. at x (is_process p x.row) (over_by_bound p c g count x m))
    where
      at : (x : Placed) (b : Bool) → x.tick + (if b then get_or (full_ticks p) x.row 0 else transit p x.row) ≤ bound p → (if b then x.tick + get_or (full_ticks p) x.row 0 else 0) ≤ bound p
      at x true l = l
      at x false l = omega arith

  at_rest : (t : ℕ) → before p c t ≡ planned p c → before p c (suc t) ≡ planned p c
  unfolding before view
  at_rest t e =
      let v : View = view_at p c t in
      idle_step p v t (before p c t)
      (no_members _ (λ x m.
      let s = starts_in p v t x m in
      let d = started_due p c g count (log_at p c t) t (only_due p c g count t) x s in
      clash (all_there x.row d.0 d.1) s.unplaced))
      (λ b n. no_members _ (λ r m.
      let q = pending_in p v b.node r m in
      let d = pending_due p c g count (log_at p c t) t (only_due p c g count t) b.node r q in
      clash (all_there r d.0 d.1) (pending_fresh p v b.node r q)))
      ∙ e
    where
      all_there : (r : ℕ) → r < rows p → due p c r ≡ true → placed (log_at p c t) r ≡ true
      all_there r l d = let y = everything_over p c g count r l d in in_placed (subst (λ (s : State). In y.0 s.log) (sym e) y.1) r y.2

  -- the plan does not depend on where planning stops
  pub planning_ends : (k : ℕ) → before p c (bound p + k) ≡ planned p c
  unfolding planned
  planning_ends zero = ap (before p c) (add-zero (bound p))
  planning_ends (suc k) = ap (before p c) (add-suc (bound p) k) ∙ at_rest (bound p + k) (planning_ends k)

pub bound_small : (p : Lines) → Good p → bound p ≤ DELAY
bound_small p g =
    let a : sum (full_ticks p) ≤ 100000 * length (full_ticks p) =
    sum_most (full_ticks p) 100000 (λ i l. let u = g.ticks_most i (omega (arith, full_length p)) in omega (arith, full_tick p i)) in
    let fe = g.few_edges in
    let fc = g.few_conditions in
    let k : length p.edges + length p.conditions ≤ 134 = omega arith in
    let m : round p * (length p.edges + length p.conditions) ≤ ROUNDTICKS * 134 = mul-le-mul (round_most p g) k in
    omega (arith, full_length p, g.few_processes)
