-- One combination from what it takes over to what is stored of it, in rows and nodes of its own.
-- Assumes nothing.
use mathlib.Core.Path.{◌≡◌, refl, sym, subst}
use mathlib.Core.List.{List}
use Prim.Native.Nat.{ℕ, ◌+◌, ◌^◌, ◌<◌}
use native.Mathlib.Nat.{pow-le-pow_right}
use native.Mathlib.Omega.{arith}
use lib.ListN.{length, get_or, set, replicate}
use Rattle.model.specs.Plan.{Lines}
use Rattle.model.specs.Refusals.{nothing, plan_refusal}
use Rattle.log_queries.specs.Reading.{last_end_by}
use Rattle.plan_index.specs.declared.PlanIndex.{PlanIndex}
use Rattle.plan_index.specs.Index.{Bounded}
use Rattle.log_rows.specs.Rows.{Rows, with_unmet}
use Rattle.planner_nodes.specs.Nodes.{Nodes}
use Rattle.plan_layout.specs.Unmet.{unmet_in}
use Rattle.plan_layout.specs.Indexed.{Indexed}
use Rattle.plan_layout.proofs.Bounds.{bounded}
use Rattle.planner_combination.specs.Events.{from_clock, Fits}
use Rattle.planner_combination.specs.Planning.{Plannable, Planned}
use Rattle.planner_prefix.specs.Prefix.{Shared}
use Rattle.planner_prefix.specs.Stored.{added, RowsKept, NotesKept}
use Rattle.planner_combinations.specs.Combinations.{Laid_out, Ready, Before, One}
use Rattle.planner_combinations.proofs.Fitting.{fits, begins_ready}
use Rattle.planner_combinations.proofs.OnePlanned.{ready_start, ready_long, CombinationPlanned, passes_few, combination_of}
use Rattle.planner_combinations.proofs.TakenOver.{prefix_ready, prefix_few, one_of}

-- a plan index of some plan: its numbers are small, and planning can go by it
pub laid_bounded : {b : PlanIndex} → Laid_out b → Bounded b
laid_bounded {b} d = bounded d.plan b d.indexed

pub laid_fits : {b : PlanIndex} → Laid_out b → Fits b
laid_fits {b} d = fits d.plan d.passes b d.indexed

pub few_combinations : {b : PlanIndex} {c : ℕ} → Laid_out b → c < 2 ^ b.conditions → c < 64
few_combinations {b} {c} d l = omega (arith, l, pow-le-pow_right {n = 2} (omega arith) {i = b.conditions} {j = 6} d.indexed.few_conditions)

module _ (b : PlanIndex) (d : Laid_out b) (c : ℕ) (low : c < 2 ^ b.conditions) (comes place notes passed : List ℕ) (h : Before b c comes place notes passed)
    (clock : ℕ) (s : Rows) (ns : Nodes) (given : Shared b c clock comes place notes s ns) where
  among : (p : Lines) → Indexed p b → c < 2 ^ length p.conditions
  among p o = subst (λ (k : ℕ). c < 2 ^ k) o.conditions_count low

  ready : (p : Lines) → plan_refusal p ≡ nothing → Indexed p b → Ready p c clock ns.busy s.comes s.place ns.passed ns.noted
  ready p f o = prefix_ready p f b o c (among p o) comes place notes (h.earlier p f o) clock s.comes s.place ns.busy ns.passed ns.noted given.prefix

  pub none_unmet : s.unmet ≡ replicate 128 0
  none_unmet = λ i. (given.rows_rest i).unmet

  module _ (t : Rows) (met : t ≡ with_unmet (unmet_in b c) s) where
    -- planning can begin
    begun : Plannable b clock (with_unmet (unmet_in b c) s) ns
    unfolding from_clock
    begun =
        let p : Lines = d.plan in
        let o : Indexed p b = d.indexed in
        let r = ready p d.passes o in
        record {
          begins = begins_ready p d.passes b o c (among p o) (unmet_in b c) refl clock ns.busy s.comes s.place ns.passed ns.noted r;
          start_one = ready_start p c clock ns.busy s.comes s.place ns.passed ns.noted r;
          counts = prefix_few p d.passes b o c (among p o) comes place notes (h.earlier p d.passes o) clock s.comes s.place ns.busy ns.passed ns.noted given.prefix;
          counts_long = ready_long p c clock ns.busy s.comes s.place ns.passed ns.noted r;
          comes_long = r.at_tick.held.comes_long;
          no_run = λ i. (given.rows_rest i).run;
          no_nextsend = λ i. (given.nodes_rest i).nextsend;
          no_arrival = λ i. (given.nodes_rest i).lastarrival;
          no_waitend = λ i. (given.nodes_rest i).waitend;
          no_wait = λ i. (given.nodes_rest i).wait;
        }

    pub plannable : Plannable b clock t ns
    plannable = subst (λ (x : Rows). Plannable b clock x ns) (sym met) begun

    -- where planning ends: the counts can be added, and what is stored is the combination's plan
    module _ (s' : Rows) (ns' : Nodes) (ended : Planned b clock t ns s' ns') where
      own : Planned b clock (with_unmet (unmet_in b c) s) ns s' ns'
      own = subst (λ (x : Rows). Planned b clock x ns s' ns') met ended

      planned : (p : Lines) → plan_refusal p ≡ nothing → Indexed p b → CombinationPlanned p c s'.comes s'.place ns'.passed ns'.noted
      planned p f o =
          combination_of p f b o c (among p o) (unmet_in b c) refl clock ns.busy s.comes s.place ns.passed ns.noted (ready p f o) s'.comes s'.place ns'.passed ns'.noted own

      pub room : (n : ℕ) → n < b.slots → get_or passed n 0 + get_or ns'.passed n 0 < 4294967296
      room n m =
          let p : Lines = d.plan in
          let o : Indexed p b = d.indexed in
          omega (
            arith,
            h.passed_few n m,
            few_combinations d low,
            (planned p d.passes o).counted n (subst (λ (j : ℕ). n < j) o.slots_count m),
            passes_few p d.passes n c (among p o),
          )

      pub one_planned : {latest : ℕ} → latest ≡ last_end_by s'.comes b.processes → (since : List ℕ) → {comes-after place_after since-after notes_after passed-after : List ℕ} →
          RowsKept c s' comes place comes-after place_after → NotesKept c ns' notes notes_after → passed-after ≡ added ns'.passed passed b.slots → since-after ≡ set since c clock →
          (p : Lines) → plan_refusal p ≡ nothing → Indexed p b → One p b.span c latest comes place since notes passed comes-after place_after since-after notes_after passed-after
      one_planned e since r m a z p f o =
          one_of p f b o c (among p o) comes place notes (h.earlier p f o) clock s.comes s.place ns.busy ns.passed ns.noted given.prefix (unmet_in b c) refl s' ns' own e since passed h.passed_long r m a z
