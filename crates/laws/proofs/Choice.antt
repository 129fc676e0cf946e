-- The urgencies are those of document 01, a unit starts its candidate of highest urgency, and messages are tried by
-- falling urgency.
-- Assumes nothing.
use mathlib.Core.Path.{◌≡◌, refl, sym, ap, ◌∙◌, subst}
use mathlib.Core.Logic.{◌⊎◌, inl, inr, ◌↔◌}
use mathlib.Core.Bool.{Bool, true, false}
use mathlib.Core.List.{map, Memᴰ as In}
use Prim.Native.Nat.{ℕ, zero, suc, ◌+◌, ◌-◌, ◌≤◌, ◌<◌}
use native.Mathlib.Omega.{arith}
use lib.Dec.{eqb}
use lib.ListN.{length, get_or}
use borrow.Author.Tests.{eqb-true, eqb-false}
use Rattle.lists.specs.Lists.{first, greatest, repeated}
use Rattle.lists.proofs.Tests.{at_most}
use Rattle.lists.proofs.Members.{map_same, map_in, keep_in, below_in, if_in, first_in}
use Rattle.lists.specs.Ordered.{Ranked}
use Rattle.lists.proofs.Sorting.{Heavier, first_ranked, upfrom_ranked, sort_ranked}
use Rattle.model.specs.Plan.{Lines, Pick, by_urgency, by_number, process, processes, edge, edges, out_of}
use Rattle.model.specs.Log.{Placed}
use Rattle.model.specs.Planning.{urgencies_from, urgencies, weights_by, weights, dispatch_order, queue, View, free, candidate, start_at, unit_starts}
use Rattle.laws.proofs.Good.{Good}
use Rattle.laws.proofs.Steps.{in_dispatch_order, in_queue, queue_in, queue_once}

module _ (p : Lines) where
  -- "Urgency of a process: its ticks plus the greatest urgency among those its edges lead to, 0 if none"
  abbrev UrgencyAt : ℕ → Type 0
  UrgencyAt i = get_or (urgencies p) i 0 ≡ (process p i).ticks + greatest (map (λ e. get_or (urgencies p) (edge p e).to 0) (out_of p i))

  -- the part of the list from process a on
  law_from : Good p → (a n : ℕ) → ((k : ℕ) → get_or (urgencies_from p a n) k 0 ≡ get_or (urgencies p) (a + k) 0) → (i : ℕ) → a ≤ i → i < a + n → UrgencyAt i
  unfolding urgencies_from
  law_from g a zero h i l u = absurd (omega arith)
  law_from g a (suc n) h i l u = at (eqb a i) refl (λ m. law_from g (suc a) n (λ k. h (suc k) ∙ ap (λ (j : ℕ). get_or (urgencies p) j 0) (omega arith)) i m (omega arith))
    where
      leads : (e : ℕ) → In e (out_of p a) → get_or (urgencies_from p (suc a) n) ((edge p e).to - suc a) 0 ≡ get_or (urgencies p) (edge p e).to 0
      leads e m =
          let r = keep_in (λ e. eqb (edge p e).from a) (edges p) m in
          let f : (edge p e).from ≡ a = eqb-true _ _ r.1 in
          let v : (edge p e).from < (edge p e).to = g.upward e (below_in (length p.edges) r.0) in
          h (suc ((edge p e).to - suc a)) ∙ ap (λ (j : ℕ). get_or (urgencies p) j 0) (omega arith)

      at : (b : Bool) → eqb a i ≡ b → (suc a ≤ i → UrgencyAt i) → UrgencyAt i
      at true e r =
          subst UrgencyAt (eqb-true a i e)
          (ap (λ (j : ℕ). get_or (urgencies p) j 0) (omega arith) ∙ sym (h 0) ∙ ap (λ (k : ℕ). (process p a).ticks + k) (ap greatest (map_same _ _ (out_of p a) leads)))
      at false e r = r (at_most a i l (eqb-false a i e))

  pub urgency_law : Good p → (i : ℕ) → i < length p.processes → UrgencyAt i
  unfolding urgencies
  urgency_law g i l = law_from g 0 (length p.processes) (λ k. ap (λ (j : ℕ). get_or (urgencies p) j 0) (omega arith)) i (omega arith) (omega arith)

  -- The weights are the urgencies; for pick number they are all 0, which leaves the number.
  pub urgency_weights : p.plan.pick ≡ by_urgency → weights p ≡ urgencies p
  unfolding weights weights_by
  urgency_weights e = ap (weights_by p) e

  pub number_weights : p.plan.pick ≡ by_number → (i : ℕ) → get_or (weights p) i 0 ≡ 0
  unfolding weights weights_by
  number_weights e i = ap (λ (c : Pick). get_or (weights_by p c) i 0) e

  -- what a unit's pick goes by, and what the order of messages goes by
  abbrev weight : ℕ → ℕ
  weight i = get_or (weights p) i 0

  abbrev receiver : ℕ → ℕ
  receiver e = weight (edge p e).to

  -- "Each free node starts its ready process of highest urgency, ties to the lower number." That a free unit with a
  -- candidate starts one is `in_starts` of Steps.
  pub starts_highest : (v : View) (t u : ℕ) (x : Placed) → In x (unit_starts p v t u) → (candidate p v u x.row ≡ true) ×
      ((j : ℕ) → j < length p.processes → candidate p v u j ≡ true → (x.row ≡ j → ⊥) → Heavier weight ◌<◌ x.row j)
  unfolding unit_starts dispatch_order
  starts_highest v t u x m =
      let s = map_in (start_at t) (first (candidate p v u) (dispatch_order p)) (if_in (free p v u) _ m).1 in
      let n : In x.row (first (candidate p v u) (dispatch_order p)) = subst (λ (y : Placed). In y.row (first (candidate p v u) (dispatch_order p))) (sym s.2) s.1 in
      ((first_in (candidate p v u) (dispatch_order p) n).1, λ j l c d. at j d (first_ranked _ (candidate p v u) (dispatch_order p) ranked n (in_dispatch_order p j l) c))
    where
      ranked : Ranked (Heavier weight ◌<◌) (dispatch_order p)
      ranked = sort_ranked weight ◌<◌ (processes p) (upfrom_ranked 0 (length p.processes))

      at : (j : ℕ) → (x.row ≡ j → ⊥) → (x.row ≡ j) ⊎ Heavier weight ◌<◌ x.row j → Heavier weight ◌<◌ x.row j
      at j d (inl q) = absurd (d q)
      at j d (inr h) = h

  -- "by urgency of the receiver, highest first, ties to the lower edge number"; every edge stands there once
  pub queue_ordered : Ranked (Heavier receiver ◌<◌) (queue p) × (repeated (queue p) ≡ false) × ((e : ℕ) → In e (queue p) ↔ (e < length p.edges))
  unfolding queue
  queue_ordered = (sort_ranked receiver ◌<◌ (edges p) (upfrom_ranked 0 (length p.edges)), queue_once p, λ e. (queue_in p, in_queue p e))
