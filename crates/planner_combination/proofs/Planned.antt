-- A run of events, from any moment at which the arrays hold planning before a tick, leads to the plan of the
-- combination: its log, its delay and its pass-overs.
-- Assumes nothing.
use Prim.Native.Nat.{ℕ, suc, ◌+◌, ◌-◌, ◌*◌, ◌≤◌, ◌<◌}
use mathlib.Core.Path.{◌≡◌, refl, sym, ap, ◌∙◌, subst}
use mathlib.Core.Logic.{◌⊎◌, inl, inr}
use mathlib.Core.Bool.{Bool, true, false}
use mathlib.Core.List.Memᴰ.{head as here}
use mathlib.Core.List.{List, Memᴰ as In}
use native.Mathlib.Omega.{arith}
use lib.Dec.{eqb, leb}
use lib.ListN.{length, get_or, replicate, length-replicate}
use borrow.Author.Tests.{eq-eqb, leb-true, leb-false}
use Rattle.lists.specs.Lists.{keep}
use Rattle.lists.proofs.Tests.{clash, two}
use Rattle.lists.proofs.Members.{keep_in}
use Rattle.lists.proofs.Fill.{zeros_at}
use Rattle.model.specs.Plan.{Lines}
use Rattle.model.specs.Bus.{condition_row}
use Rattle.model.specs.Log.{Placed, Log}
use Rattle.model.specs.Planning.{State, before, bound, planned}
use Rattle.model.specs.Refusals.{plan_refusal, nothing}
use Rattle.laws.proofs.Good.{Good, good}
use Rattle.laws.proofs.Bound.{planning_ends, bound_small}
use Rattle.laws.proofs.Progress.{over_by_bound}
use Rattle.laws.proofs.Steps.{log_at}
use Rattle.log_queries.specs.Holding.{Holds, Row, absent, stands, Held}
use Rattle.log_queries.proofs.Held.{held_none}
use Rattle.planner_dispatch.specs.Busy.{Busy}
use Rattle.planner_dispatch.proofs.Ends.{busy_none}
use Rattle.plan_index.specs.declared.PlanIndex.{PlanIndex}
use Rattle.plan_layout.specs.Indexed.{Indexed}
use Rattle.planner_combination.specs.Events.{last_event, Moment, next, Leads, over, on, from_clock}
use Rattle.planner_combination.specs.Standing.{past, At}
use Rattle.planner_combination.proofs.EventOfModel.{at_next}

-- planning from a clock on, where no item is under way
pub from_at : (p : Lines) (c : List Bool) (t : ℕ) (busy comes place passed noted : List ℕ) → Held p (log_at p c t) comes place → Busy p comes busy (suc t) →
    ((r : ℕ) → length p.processes ≤ r → get_or comes r 0 ≤ suc t) →
    ((n : ℕ) → n < length p.slots → get_or passed n 0 ≡ length (keep (eqb n) (before p c t).passed)) → length passed ≡ 8 →
    ((k : ℕ) → k < length p.conditions → 0 < get_or comes (condition_row p k) 0 → get_or comes (condition_row p k) 0 ≤ t → (n : ℕ) → n < length p.slots →
    get_or noted (k * 8 + n) 0 ≡ length (keep (eqb n) (before p c (get_or comes (condition_row p k) 0 - 1)).passed)) → length noted ≡ 48 →
    At p c t (from_clock (suc t) busy comes place passed noted)
unfolding from_clock
from_at p c t busy comes place passed noted h b f n l w x =
    record {
      clock = refl;
      held = h;
      ends = b;
      items_sent = λ r y. inl (f r y);
      slotend_end = past (omega arith);
      broadcasts_heard = λ j y. by_now (get_or comes (condition_row p j) 0) (f (condition_row p j) (omega arith));
      broadcastend_end = past (omega arith);
      running = λ q. clash (eq-eqb (suc t) (suc t) refl) q;
      no_starts = λ q. clash (eq-eqb (suc t) (suc t) refl) q;
      counts = n;
      passed_long = l;
      noting = w;
      noted_long = x;
    }
  where
    by_now : (x : ℕ) → x ≤ suc t → (x ≤ t) ⊎ (x ≡ suc t)
    by_now x l = at (two (leb x t))
      where
        at : (leb x t ≡ true) ⊎ (leb x t ≡ false) → (x ≤ t) ⊎ (x ≡ suc t)
        at (inl e) = inl (leb-true x t e)
        at (inr e) = inr (let z = leb-false x t e in omega arith)

-- planning from the beginning
pub first_at : (p : Lines) (c : List Bool) → At p c 0 (from_clock 1 (replicate 8 0) (replicate 198 0) (replicate 198 0) (replicate 8 0) (replicate 48 0))
unfolding before
first_at p c =
    from_at p c 0 (replicate 8 0) (replicate 198 0) (replicate 198 0) (replicate 8 0) (replicate 48 0) (held_none p) (busy_none p 1) (λ r l. omega (arith, zeros_at 198 r))
    (λ n l. zeros_at 8 n) (length-replicate {A = ℕ} 8 0)
    (λ k l z. absurd (omega (arith, zeros_at 198 (condition_row p k)))) (length-replicate {A = ℕ} 48 0)

module _ (p : Lines) (passes : plan_refusal p ≡ nothing) (c : List Bool) (count : length c ≡ length p.conditions) (b : PlanIndex) (unmet : List ℕ) (o : Indexed p b)
    (h : Holds p c b.from b.knownby unmet b.remote b.asany b.intofirst b.into) where
  abbrev g : Good p
  g = good p passes

  leads_at : (m e : Moment) → Leads b unmet m e → (t : ℕ) → At p c t m → (w : ℕ) × At p c w e × (last_event < e.u)
  leads_at m e (over n l) t s = (t, s, l)
  leads_at m e (on n f l r) t s = leads_at (next b unmet m) e r ((next b unmet m).u - 1) (at_next p passes c count b unmet o h t m s l)

  ended : (t : ℕ) → last_event ≤ t → before p c t ≡ planned p c
  ended t l =
      let s = bound_small p g in
      let q : bound p + (t - bound p) ≡ t = omega arith in
      ap (before p c) (sym q) ∙ planning_ends p c passes count (t - bound p)

  -- the plan of the combination, in the arrays
  pub record Plans (comes place busy passed noted : List ℕ) : Type 0 where
    pub held : Held p (planned p c).log comes place
    pub ends : (u : ℕ) × Busy p comes busy u
    pub counts : (n : ℕ) → n < length p.slots → get_or passed n 0 ≡ length (keep (eqb n) (planned p c).passed)
    pub passed_long : length passed ≡ 8
    pub noting : (k : ℕ) → k < length p.conditions → 0 < get_or comes (condition_row p k) 0 → (n : ℕ) → n < length p.slots →
        get_or noted (k * 8 + n) 0 ≡ length (keep (eqb n) (before p c (get_or comes (condition_row p k) 0 - 1)).passed)
    pub noted_long : length noted ≡ 48

  -- everything is over by the bound
  pub over_by_bound_in : (comes place : List ℕ) → Held p (planned p c).log comes place → (r : ℕ) → get_or comes r 0 ≤ suc (bound p)
  over_by_bound_in comes place h r = at (h.row r)
    where
      at : Row p (planned p c).log r (get_or comes r 0) (get_or place r 0) → get_or comes r 0 ≤ suc (bound p)
      at (absent n z) = omega (arith, z)
      at (stands t n z) =
          let x : Placed = record { row = r; tick = t; place = get_or place r 0 } in
          let m : In x (planned p c).log = (keep_in (λ y. eqb y.row r) (planned p c).log (subst (λ (y : Log). In x y) (sym n) (here refl))).0 in
          omega (arith, z, over_by_bound p c g count x m)

  pub leads_planned : (m e : Moment) → Leads b unmet m e → (t : ℕ) → At p c t m → Plans e.comes e.place e.busy e.passed e.noted
  leads_planned m e l t s =
      let r = leads_at m e l t s in
      let w : ℕ = r.0 in
      let a : At p c w e = r.1 in
      let q : before p c w ≡ planned p c = ended w (omega (arith, r.2, a.clock)) in
      let h : Held p (planned p c).log e.comes e.place = subst (λ (z : State). Held p z.log e.comes e.place) q a.held in
      record {
        held = h;
        ends = (suc w, a.ends);
        counts = λ n l. a.counts n l ∙ ap (λ (z : State). length (keep (eqb n) z.passed)) q;
        passed_long = a.passed_long;
        noting = λ k l z n w. a.noting k l z (omega (arith, over_by_bound_in e.comes e.place h (condition_row p k), bound_small p g, r.2, a.clock)) n w;
        noted_long = a.noted_long;
      }
