-- What the slots of a node pass over in all combinations. Document 02, point 3: "Added up they give the old count"
-- (`pass_overs_added`).
-- Assumes nothing.
use mathlib.Core.Path.{◌≡◌, refl, ap, sym, subst, ◌∙◌}
use mathlib.Core.Logic.{◌⊎◌, inl, inr}
use mathlib.Core.Bool.{Bool, true, false}
use mathlib.Core.List.Memᴰ.{append_cases as in_either}
use mathlib.Core.List.Memᴰ.{not-nil as in_none}
use mathlib.Core.List.{List, [], ◌∷◌, ◌++◌, map, Memᴰ as In}
use Prim.Native.Nat.{ℕ, zero, suc, ◌+◌, ◌-◌, ◌≤◌, ◌<◌}
use native.Mathlib.Omega.{arith}
use lib.Dec.{eqb}
use lib.ListN.{get_or, length, length-append, length-map}
use Rattle.lists.specs.Lists.{keep, each, below, sum}
use Rattle.lists.proofs.Members.{map_in, map_same, in_keep, keep_in, in_length}
use Rattle.lists.proofs.Keep.{below_last, map_map, keep_append, keep_map, keep_all, each_append}
use Rattle.lists.proofs.Counts.{keep_short, sum_counts}
use Rattle.lists.proofs.Sums.{map_most, sum_most_in, sum_turned}
use Rattle.model.specs.Plan.{Lines, Slot}
use Rattle.model.specs.Activity.{combinations}
use Rattle.model.specs.Bus.{beginning}
use Rattle.model.specs.Planning.{State, view, passes_over, step, before, bound, planned}
use Rattle.model.specs.Refusals.{nothing, plan_refusal}
use Rattle.model.specs.Table.{Planned, plans, passed_by, passing_slots, pass_over_count, result}
use Rattle.laws.proofs.Bound.{planning_ends}
use Rattle.laws.proofs.Combinations.{few_combinations, combination_length}
use Rattle.laws.proofs.Events.{passed_few}
use Rattle.laws.proofs.Good.{Good, good}
use Rattle.laws.proofs.Slots.{beginning_in}

-- a plan is that of a combination
pub plan_in : (p : Lines) (s : Planned) → In s (plans p) → (c : List Bool) × (length c ≡ length p.conditions) × (s.state ≡ planned p c)
unfolding plans
plan_in p s i =
    let c = map_in (λ c. record { combination = c; state = planned p c }) (combinations p) i in
    (c.0, combination_length p c.0 c.1, ap (λ (z : Planned). z.state) c.2)

module _ (p : Lines) (fine : plan_refusal p ≡ nothing) where
  g : Good p
  g = good p fine

  -- what a node passes over in all combinations: a number of five digits
  one_passed : (n : ℕ) (s : Planned) → In s (plans p) → length (keep (eqb n) s.state.passed) ≤ 198
  unfolding planned
  one_passed n s i =
      let c = plan_in p s i in
      omega (arith, keep_short (eqb n) s.state.passed, ap (λ (z : State). length z.passed) c.2, passed_few p c.0 g c.1 (bound p), g.few_processes, g.few_edges, g.few_conditions)

  pub node_passed : (n : ℕ) → passed_by (plans p) n ≤ 12672
  unfolding passed_by plans
  node_passed n =
      let count : length (plans p) ≡ length (combinations p) = length-map (combinations p) (λ c. record { combination = c; state = planned p c }) in
      omega (arith, sum_most_in (λ s. length (keep (eqb n) s.state.passed)) (plans p) 198 (one_passed n), few_combinations p g)

  pub counts_most : (n : ℕ) → get_or (result p).passed n 0 ≤ 12672
  unfolding result
  counts_most n = map_most (passed_by (plans p)) 12672 (λ k. node_passed k) (below (length p.slots)) n

-- the slots of a combination that begin at a tick and pass a ready item over
abbrev passing_at : Lines → List Bool → ℕ → List Slot
passing_at p c t = keep (passes_over p (view p c (before p c t).log t) t) (beginning p t)

module _ (p : Lines) (c : List Bool) where
  -- of the slots before a tick that pass over, as many are of nodes with a property as the state has noted
  noted : (f : ℕ → Bool) (t : ℕ) → length (keep f (before p c t).passed) ≡ length (keep (λ b. f b.node) (each (passing_at p c) (below t)))
  unfolding before step
  noted f zero = refl
  noted f (suc t) =
      let new : List Slot = passing_at p c t in
      let old : List Slot = each (passing_at p c) (below t) in
      let here : length (keep f (map (λ b. b.node) new)) ≡ length (keep (λ b. f b.node) new) =
      ap length (keep_map f (λ b. b.node) new) ∙ length-map (keep (λ b. f b.node) new) (λ b. b.node) in
      let all : each (passing_at p c) (below (suc t)) ≡ old ++ (new ++ []) = ap (each (passing_at p c)) (below_last t) ∙ each_append (passing_at p c) (below t) (t ∷ []) in
      omega (
        arith,
        noted f t,
        here,
        ap length (keep_append f (map (λ b. b.node) new) (before p c t).passed),
        length-append (keep f (map (λ b. b.node) new)) (keep f (before p c t).passed),
        ap (λ (bs : List Slot). length (keep (λ b. f b.node) bs)) all,
        ap length (keep_append (λ b. f b.node) old (new ++ [])),
        length-append (keep (λ b. f b.node) old) (keep (λ b. f b.node) (new ++ [])),
        ap length (keep_append (λ b. f b.node) new []),
        length-append (keep (λ b. f b.node) new) [],
      )

  -- in the whole plan: those of a node, and all
  pub noted_by : (n : ℕ) → length (keep (eqb n) (planned p c).passed) ≡ length (keep (λ b. eqb n b.node) (passing_slots p c))
  unfolding planned passing_slots
  noted_by n = noted (eqb n) (bound p)

  noted_all : length (planned p c).passed ≡ length (passing_slots p c)
  unfolding planned passing_slots
  noted_all =
      omega (
        arith,
        noted (λ n. true) (bound p),
        ap length (keep_all (λ n. true) (before p c (bound p)).passed (λ n i. refl)),
        ap length (keep_all (λ b. true) (passing_slots p c) (λ b i. refl)),
      )

-- the count of a node: its slots that passed over, in all combinations
pub passed_node : (p : Lines) (n : ℕ) → passed_by (plans p) n ≡ sum (map (λ c. length (keep (λ b. eqb n b.node) (passing_slots p c))) (combinations p))
unfolding passed_by plans
passed_node p n =
    ap sum
    (map_map (λ s. length (keep (eqb n) s.state.passed)) (λ c. record { combination = c; state = planned p c }) (combinations p)
    ∙ map_same _ _ (combinations p) (λ c i. noted_by p c n))

module _ (p : Lines) (g : Good p) where
  -- a slot that passes over is a node's
  noted_node : (c : List Bool) (t n : ℕ) → In n (before p c t).passed → n < length p.slots
  unfolding before step
  noted_node c zero n m = absurd (in_none m)
  noted_node c (suc t) n m = at (in_either (map (λ b. b.node) (passing_at p c t)) m) (noted_node c t n)
    where
      at : In n (map (λ b. b.node) (passing_at p c t)) ⊎ In n (before p c t).passed → (In n (before p c t).passed → n < length p.slots) → n < length p.slots
      at (inl k) r =
          let b = map_in (λ b. b.node) (passing_at p c t) k in
          let s = beginning_in p t (keep_in _ (beginning p t) b.1).0 in
          subst (λ (j : ℕ). j < length p.slots) (sym b.2) (g.slot_node_in b.0 s.0)
      at (inr k) r = r k

  -- so the counts of the nodes add up to all that a plan has noted
  counts_added : (c : List Bool) → sum (map (λ n. length (keep (eqb n) (planned p c).passed)) (below (length p.slots))) ≡ length (planned p c).passed
  unfolding planned
  counts_added c = sum_counts 0 (length p.slots) (before p c (bound p)).passed (λ n i. (omega arith, let l = noted_node c (bound p) n i in omega arith))

-- "Added up they give the old count": the slots of all combinations that passed a ready item over
pub pass_overs_added : (p : Lines) → plan_refusal p ≡ nothing → sum (result p).passed ≡ pass_over_count p
unfolding result passed_by plans pass_over_count
pass_overs_added p fine =
    sum_turned (λ s n. length (keep (eqb n) s.state.passed)) (plans p) 0 (length p.slots)
    ∙ ap sum
    (map_map (λ s. sum (map (λ n. length (keep (eqb n) s.state.passed)) (below (length p.slots)))) (λ c. record { combination = c; state = planned p c }) (combinations p)
    ∙ map_same _ _ (combinations p) (λ c i. counts_added p (good p fine) c ∙ noted_all p c))

-- From the bound on, where planning ends, no slot passes a ready item over: so those of `passing_slots` are all.
module _ (p : Lines) (c : List Bool) (fine : plan_refusal p ≡ nothing) (count : length c ≡ length p.conditions) (t : ℕ) (late : bound p ≤ t) where
  same_state : (k : ℕ) → bound p + k ≡ t → (before p c t ≡ planned p c) × (before p c (suc t) ≡ planned p c)
  same_state k e =
      let z : bound p + suc k ≡ suc t = omega arith in
      (ap (before p c) (sym e) ∙ planning_ends p c fine count k, ap (before p c) (sym z) ∙ planning_ends p c fine count (suc k))

  none_passing : length (passing_at p c t) ≡ 0
  unfolding before step
  none_passing =
      let q = same_state (t - bound p) (omega arith) in
      omega (
        arith,
        ap (λ (s : State). length s.passed) q.0,
        ap (λ (s : State). length s.passed) q.1,
        length-append (map (λ b. b.node) (passing_at p c t)) (before p c t).passed,
        length-map (passing_at p c t) (λ b. b.node),
      )

  pub none_later : (s : Slot) → In s (beginning p t) → passes_over p (view p c (before p c t).log t) t s ≡ false
  none_later s m = at (passes_over p (view p c (before p c t).log t) t s) refl
    where
      at : (b : Bool) → passes_over p (view p c (before p c t).log t) t s ≡ b → passes_over p (view p c (before p c t).log t) t s ≡ false
      at true e = absurd (let l = in_length (in_keep (passes_over p (view p c (before p c t).log t) t) m e) in omega (arith, none_passing))
      at false e = e
