-- The starts of the nodes for which something is new are the starts of all nodes, and the first end of the processes
-- that start is kept from node to node.
-- Assumes nothing.
use Prim.Native.Nat.{ℕ, suc, ◌≤◌, ◌<◌}
use mathlib.Core.Path.{◌≡◌, refl, sym, ap, ◌∙◌}
use mathlib.Core.Logic.{◌⊎◌, inl, inr}
use mathlib.Core.Bool.{true, false}
use mathlib.Core.List.{List}
use native.Mathlib.Omega.{arith}
use lib.Dec.{eqb}
use lib.ListN.{length, get_or, set, length-set}
use lib.Seq.{get_or-set_other}
use borrow.Author.Tests.{eqb-true, eqb-false, lt-ltb, le-ltb}
use Rattle.lists.proofs.Tests.{two}
use Rattle.model.specs.Listing.{bit}
use Rattle.bitset.specs.Masks.{nodes, steps}
use Rattle.bitset.proofs.Steps.{steps_kept}
use Rattle.planner_dispatch.specs.Starts.{Ends, start_by, starts_by}
use Rattle.planner_dispatch.specs.Unchanged.{Unchanged}
use Rattle.planner_dispatch.specs.ChangedNodes.{start_in, no_end, Soonest}
use Rattle.planner_dispatch.proofs.Ends.{set_there}
use Rattle.planner_dispatch.proofs.UnchangedNodes.{old_then}

module _ (processes : ℕ) (remote from knownby unmet run asany intofirst into : List ℕ) (u : ℕ) (dispatchfirst dispatch ticks : List ℕ) (slots : ℕ) where
  abbrev one : ℕ → Ends → Ends
  one = start_in processes remote from knownby unmet run asany intofirst into u dispatchfirst dispatch ticks slots

  abbrev step : ℕ → Ends → Ends
  step = start_by processes remote from knownby unmet run asany intofirst into u dispatchfirst dispatch ticks

  -- a number that is a node's, and one that is not
  pub in_node : (n : ℕ) (s : Ends) → n < slots → one n s ≡ step n s
  unfolding start_in
  in_node n s l = rw (lt-ltb n slots l) refl

  pub in_none : (n : ℕ) (s : Ends) → slots ≤ n → one n s ≡ s
  unfolding start_in
  in_none n s l = rw (le-ltb n slots l) refl

  module _ (new : ℕ) (busy comes : List ℕ) (low : (j : ℕ) → get_or dispatch j 0 < 64)
      (q : Unchanged processes slots remote from knownby unmet run asany intofirst into dispatchfirst dispatch ticks u new busy comes) where
    abbrev after : ℕ → Ends
    after n = starts_by processes remote from knownby unmet run asany intofirst into u dispatchfirst dispatch ticks n (record { busy = busy; comes = comes })

    -- where nothing is new for a node, its start changes nothing
    old_node : (n : ℕ) → n < slots → bit new n ≡ false → after (suc n) ≡ after n
    unfolding starts_by
    old_node n l e = old_then processes remote from knownby unmet run asany intofirst into u dispatchfirst dispatch ticks slots new busy comes low q n l e

    new_node : (n : ℕ) → n < slots → one n (after n) ≡ after (suc n)
    unfolding starts_by
    new_node n l = in_node n (after n) l

    pub changed_nodes_start : slots ≤ 8 → steps one (nodes new) (record { busy = busy; comes = comes }) ≡ after slots
    unfolding starts_by nodes
    changed_nodes_start l = steps_kept one (bit new) slots after new_node in_none old_node 8 l

-- as nothing has started yet
pub soonest_none : (slots u : ℕ) (busy : List ℕ) → length busy ≡ 8 → Soonest slots u busy busy no_end
soonest_none slots u busy l = record { long = l; most = λ n o h. inl refl; one = inl refl }

-- one node starts: its last process ended by the clock, and now it ends at `end`
pub soonest_next : (slots u : ℕ) (before busy : List ℕ) (first n end first' : ℕ) → n < slots → n < 8 → get_or busy n 0 ≤ u →
    (first' ≤ first) × (u < end → first' ≤ end) × ((first' ≡ first) ⊎ ((u < end) × (first' ≡ end))) →
    Soonest slots u before busy first → Soonest slots u before (set busy n end) first'
soonest_next slots u before busy first n end first' l o free r s =
    record { long = length-set busy n end ∙ s.long; most = λ k m h. most k m h (two (eqb k n)); one = one r.2 s.one }
  where
    here : get_or (set busy n end) n 0 ≡ end
    here = set_there busy n n end (omega (arith, s.long)) refl

    there : (k : ℕ) → (k ≡ n → ⊥) → get_or (set busy n end) k 0 ≡ get_or busy k 0
    there k d = get_or-set_other busy n k end 0 d

    most : (k : ℕ) → k < slots → u < get_or (set busy n end) k 0 → (eqb k n ≡ true) ⊎ (eqb k n ≡ false) →
        (get_or (set busy n end) k 0 ≡ get_or before k 0) ⊎ (first' ≤ get_or (set busy n end) k 0)
    most k m h (inl e) =
        let z : get_or (set busy n end) k 0 ≡ end = ap (λ (j : ℕ). get_or (set busy n end) j 0) (eqb-true k n e) ∙ here in
        inr (omega (arith, z, r.1 (omega (arith, z, h))))
    most k m h (inr e) = at (s.most k m (omega (arith, there k (eqb-false k n e), h)))
      where
        at : (get_or busy k 0 ≡ get_or before k 0) ⊎ (first ≤ get_or busy k 0) → (get_or (set busy n end) k 0 ≡ get_or before k 0) ⊎ (first' ≤ get_or (set busy n end) k 0)
        at (inl z) = inl (there k (eqb-false k n e) ∙ z)
        at (inr z) = inr (omega (arith, there k (eqb-false k n e), z, r.0))

    one : (first' ≡ first) ⊎ ((u < end) × (first' ≡ end)) → (first ≡ no_end) ⊎ ((k : ℕ) × (k < slots) × (u < first) × (first ≡ get_or busy k 0)) →
        (first' ≡ no_end) ⊎ ((k : ℕ) × (k < slots) × (u < first') × (first' ≡ get_or (set busy n end) k 0))
    one (inr e) z = inr (n, l, omega (arith, e.0, e.1), e.1 ∙ sym here)
    one (inl e) (inl z) = inl (e ∙ z)
    one (inl e) (inr z) =
        let d : z.0 ≡ n → ⊥ = λ w. omega (arith, z.2, z.3, free, ap (λ (j : ℕ). get_or busy j 0) w) in
        inr (z.0, z.1, omega (arith, e, z.2), e ∙ z.3 ∙ sym (there z.0 d))
