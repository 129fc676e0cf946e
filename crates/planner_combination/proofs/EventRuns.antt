-- What a run of events rests on: what the moments before it leave.
-- Assumes nothing.
use Prim.Native.Nat.{ℕ, ◌≤◌, ◌<◌}
use mathlib.Core.Path.{◌≡◌, ◌∙◌, subst}
use mathlib.Core.List.{List}
use native.Mathlib.Omega.{arith}
use lib.ListN.{length, get_or, replicate}
use Rattle.plan_index.specs.declared.PlanIndex.{PlanIndex}
use Rattle.planner_combination.specs.Events.{last_event, Moment, moment, next, Leads, on, from_clock, Fits}
use Rattle.planner_combination.proofs.EventParts.{next_counts, next_long, next_later}

module _ (b : PlanIndex) (unmet : List ℕ) where
  -- the events before a moment: what it leads to the first one leads to
  pub record Going (first m : Moment) : Type 0 where
    pub leads : (e : Moment) → Leads b unmet m e → Leads b unmet first e
    pub from_one : 1 ≤ m.u
    pub counts_low : (k : ℕ) → get_or m.passed k 0 ≤ m.u
    pub counts_long : length m.passed ≡ 8

  pub going_start : (u : ℕ) {run : List ℕ} (busy comes place passed noted : List ℕ) → run ≡ replicate 64 0 → 1 ≤ u → ((k : ℕ) → get_or passed k 0 ≤ u) → length passed ≡ 8 →
      Going (from_clock u busy comes place passed noted) (moment u u 0 u run busy comes place passed noted)
  unfolding from_clock
  going_start u busy comes place passed noted q l h n =
      record {
        leads = λ e r. subst (λ (xs : List ℕ). Leads b unmet (moment u u 0 u xs busy comes place passed noted) e) q r;
        from_one = l;
        counts_low = h;
        counts_long = n;
      }

  pub going_on : Fits b → {first m : Moment} → Going first m → m.u ≤ last_event → Going first (next b unmet m)
  going_on f {first} {m} g l =
      let z : m.u < (next b unmet m).u = next_later b unmet f m l in
      record {
        leads = λ e r. g.leads e (on m e l r);
        from_one = omega (arith, z);
        counts_low = λ k. omega (arith, z, g.counts_low k, next_counts b unmet m k);
        counts_long = next_long b unmet m ∙ g.counts_long;
      }
