-- Whether a node has an item pending, and which messages wait, is the same where the rows that it goes by are.
-- Assumes nothing.
use Prim.Native.Nat.{ℕ, ◌+◌, ◌≤◌, ◌<◌}
use mathlib.Core.Path.{◌≡◌, refl, sym, ap, ◌∙◌}
use mathlib.Core.Logic.{◌⊎◌, inl, inr}
use mathlib.Core.Bool.{Bool, true, false, not, ◌&&◌, ◌||◌}
use mathlib.Core.List.{List, Memᴰ as In}
use native.Mathlib.Omega.{arith}
use lib.Dec.{eqb}
use lib.ListN.{get_or}
use borrow.Author.Tests.{eqb-true, le-leb, lt-leb}
use Rattle.lists.specs.Lists.{below, keep}
use Rattle.lists.proofs.Tests.{two, and_false}
use Rattle.lists.proofs.Keep.{keep_same}
use Rattle.lists.proofs.Members.{any_same, below_in}
use Rattle.log_queries.specs.Reading.{within, came_by, placed_by, part, message_by}
use Rattle.planner_sends.specs.Packing.{broadcasts_by, waits_by, pending_by}
use Rattle.planner_sends.specs.NextSends.{pending_in}

-- a row that is over by the earlier clock, or not by the later one; a row that was not placed and ends after the clock
module _ (x : ℕ) where
  within_late : (u : ℕ) → u < x → within x u ≡ false
  within_late u l = ap (λ (b : Bool). not (eqb x 0) && b) (lt-leb x u l) ∙ and_false (not (eqb x 0))

  within_same : (v u : ℕ) → v ≤ u → (x ≤ v) ⊎ (u < x) → within x u ≡ within x v
  within_same v u l (inl m) = ap (λ (b : Bool). not (eqb x 0) && b) (le-leb x u (omega arith) ∙ sym (le-leb x v m))
  within_same v u l (inr m) = within_late u m ∙ sym (within_late v (omega arith))

pub came_same : (comes : List ℕ) (v u r : ℕ) → v ≤ u → (get_or comes r 0 ≤ v) ⊎ (u < get_or comes r 0) → came_by comes u r ≡ came_by comes v r
unfolding came_by
came_same comes v u r l h = within_same (get_or comes r 0) v u l h

pub came_grown : (comes comes' : List ℕ) (u r : ℕ) → (get_or comes' r 0 ≡ get_or comes r 0) ⊎ ((get_or comes r 0 ≡ 0) × (u < get_or comes' r 0)) → came_by comes' u r ≡ came_by comes u r
unfolding came_by
came_grown comes comes' u r (inl e) = ap (λ (x : ℕ). within x u) e
came_grown comes comes' u r (inr e) = within_late (get_or comes' r 0) u e.1 ∙ sym (ap (λ (x : ℕ). within x u) e.0)

module _ (processes conditionrow conditions : ℕ) (decider node queuefirst queue from knownby unmet : List ℕ) (n : ℕ) where
  abbrev edges : List ℕ
  edges = part queue (get_or queuefirst n 0) (get_or queuefirst (n + 1) 0)

  -- what node n goes by is the same at clock v with the rows `comes` and at clock u with the rows `comes'`
  pub record Same (v u : ℕ) (comes comes' : List ℕ) : Type 0 where
    pub sent : (e : ℕ) → In e edges → placed_by comes' (processes + e) ≡ placed_by comes (processes + e)
    pub ended : (e : ℕ) → In e edges → came_by comes' u (get_or from e 0) ≡ came_by comes v (get_or from e 0)
    pub known : (e : ℕ) → In e edges → came_by comes' u (get_or knownby e 0) ≡ came_by comes v (get_or knownby e 0)
    pub broadcastend : (k : ℕ) → k < conditions → get_or node (get_or decider k 0) 0 ≡ n → placed_by comes' (conditionrow + k) ≡ placed_by comes (conditionrow + k)
    pub decided : (k : ℕ) → k < conditions → get_or node (get_or decider k 0) 0 ≡ n → came_by comes' u (get_or decider k 0) ≡ came_by comes v (get_or decider k 0)

  module _ (v u : ℕ) (comes comes' : List ℕ) (s : Same v u comes comes') where
    waits_same : (e : ℕ) → In e edges → waits_by processes from knownby unmet comes' u e ≡ waits_by processes from knownby unmet comes v e
    unfolding waits_by message_by
    waits_same e m = λ j. not (s.sent e m j) && (eqb (get_or unmet e 0) 0 && (s.ended e m j && s.known e m j))

    broadcasts_same : (k : ℕ) → In k (below conditions) → broadcasts_by conditionrow decider node comes' n u k ≡ broadcasts_by conditionrow decider node comes n v k
    unfolding broadcasts_by
    broadcasts_same k m = at (two (eqb (get_or node (get_or decider k 0) 0) n))
      where
        at : (eqb (get_or node (get_or decider k 0) 0) n ≡ true) ⊎ (eqb (get_or node (get_or decider k 0) 0) n ≡ false) →
            ((eqb (get_or node (get_or decider k 0) 0) n && not (placed_by comes' (conditionrow + k))) && came_by comes' u (get_or decider k 0))
            ≡ ((eqb (get_or node (get_or decider k 0) 0) n && not (placed_by comes (conditionrow + k))) && came_by comes v (get_or decider k 0))
        at (inl e) =
            let l = below_in conditions m in
            let q = eqb-true _ _ e in
            λ j. (eqb (get_or node (get_or decider k 0) 0) n && not (s.broadcastend k l q j)) && s.decided k l q j
        at (inr e) = rw e refl

    pub pending_same : pending_in processes conditionrow conditions decider node queuefirst queue from knownby unmet comes' u n ≡ pending_in processes conditionrow conditions decider node queuefirst queue from knownby unmet comes v n
    unfolding pending_in pending_by
    pending_same =
        let a = any_same (waits_by processes from knownby unmet comes' u) (waits_by processes from knownby unmet comes v) edges waits_same in
        let b = any_same (broadcasts_by conditionrow decider node comes' n u) (broadcasts_by conditionrow decider node comes n v) (below conditions) broadcasts_same in
        λ j. a j || b j

    pub waiting_same : keep (waits_by processes from knownby unmet comes' u) edges ≡ keep (waits_by processes from knownby unmet comes v) edges
    waiting_same = keep_same (waits_by processes from knownby unmet comes' u) (waits_by processes from knownby unmet comes v) edges waits_same
