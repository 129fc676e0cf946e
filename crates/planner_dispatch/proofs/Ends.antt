-- Arrays that hold where the nodes' last processes end: before anything has started, at a later clock, and after the
-- start of a process.
-- Assumes nothing.
use mathlib.Core.Path.{◌≡◌, sym, ap, ◌∙◌, fun_ext}
use mathlib.Core.Logic.{◌⊎◌, inl, inr}
use mathlib.Core.Bool.{Bool, true, false, not, ◌&&◌}
use mathlib.Core.List.{List}
use Prim.Native.Nat.{ℕ, ◌≤◌, ◌<◌}
use native.Mathlib.Omega.{arith}
use lib.Dec.{eqb}
use lib.ListN.{length, get_or, set, replicate, length-set, length-replicate}
use lib.Seq.{get_or-set_same, get_or-set_other}
use borrow.Author.Tests.{eqb-true, eqb-false, lt-leb}
use Rattle.lists.proofs.Tests.{two, and_false}
use Rattle.lists.proofs.Fill.{zeros_at}
use Rattle.model.specs.Plan.{Lines, unit}
use Rattle.log_queries.specs.Reading.{within, came_by}
use Rattle.planner_dispatch.specs.Busy.{Busy}

-- a number stored, and another place
pub set_there : (xs : List ℕ) (n m v : ℕ) → n < length xs → m ≡ n → get_or (set xs n v) m 0 ≡ v
set_there xs n m v l q = ap (λ (k : ℕ). get_or (set xs n v) k 0) q ∙ get_or-set_same xs n v 0 l

-- before anything has started, at a later clock, and where only the rows of items have changed
pub busy_none : (p : Lines) (u : ℕ) → Busy p (replicate 198 0) (replicate 8 0) u
busy_none p u =
    record {
      most = λ i k. omega (arith, zeros_at 198 i);
      last = λ i k. inl (omega (arith, zeros_at 198 i));
      some = λ n k. inl (zeros_at 8 n);
      long = length-replicate {A = ℕ} 8 0;
    }

pub busy_later : (p : Lines) (comes busy : List ℕ) (u w : ℕ) → u ≤ w → Busy p comes busy u → Busy p comes busy w
busy_later p comes busy u w l b = record { most = b.most; last = λ i k. at i (b.last i k); some = b.some; long = b.long }
  where
    at : (i : ℕ) → (get_or comes i 0 ≤ u) ⊎ (get_or comes i 0 ≡ get_or busy (unit p i) 0) → (get_or comes i 0 ≤ w) ⊎ (get_or comes i 0 ≡ get_or busy (unit p i) 0)
    at i (inl e) = inl (omega arith)
    at i (inr e) = inr e

pub busy_rows : (p : Lines) (comes comes' busy : List ℕ) (u : ℕ) → ((i : ℕ) → i < length p.processes → get_or comes' i 0 ≡ get_or comes i 0) → Busy p comes busy u → Busy p comes' busy u
busy_rows p comes comes' busy u q b =
    record { most = λ i k. omega (arith, b.most i k, q i k); last = λ i k. last_at i k (b.last i k); some = λ n k. some_at n (b.some n k); long = b.long }
  where
    last_at : (i : ℕ) → i < length p.processes → (get_or comes i 0 ≤ u) ⊎ (get_or comes i 0 ≡ get_or busy (unit p i) 0) → (get_or comes' i 0 ≤ u) ⊎ (get_or comes' i 0 ≡ get_or busy (unit p i) 0)
    last_at i k (inl e) = inl (omega (arith, q i k))
    last_at i k (inr e) = inr (q i k ∙ e)

    some_at : (n : ℕ) → (get_or busy n 0 ≡ 0) ⊎ ((i : ℕ) × (i < length p.processes) × (unit p i ≡ n) × (get_or comes i 0 ≡ get_or busy n 0)) →
        (get_or busy n 0 ≡ 0) ⊎ ((i : ℕ) × (i < length p.processes) × (unit p i ≡ n) × (get_or comes' i 0 ≡ get_or busy n 0))
    some_at n (inl e) = inl e
    some_at n (inr e) = inr (e.0, e.1, e.2, q e.0 e.1 ∙ e.3)

-- Process i starts, and ends after the clock.
module _ (comes : List ℕ) (u i end : ℕ) (room : i < length comes) (high : u < end) where
  -- what has come by the clock stays
  pub came_start : get_or comes i 0 ≡ 0 → came_by (set comes i end) u ≡ came_by comes u
  unfolding came_by
  came_start fresh = fun_ext (λ r. at r (two (eqb r i)))
    where
      at : (r : ℕ) → (eqb r i ≡ true) ⊎ (eqb r i ≡ false) → within (get_or (set comes i end) r 0) u ≡ within (get_or comes r 0) u
      at r (inl e) =
          let q : r ≡ i = eqb-true r i e in
          ap (λ (x : ℕ). within x u) (set_there comes i r end room q)
          ∙ ap (λ (z : Bool). not (eqb end 0) && z) (lt-leb end u high)
          ∙ and_false (not (eqb end 0))
          ∙ sym (ap (λ (x : ℕ). within x u) (ap (λ (k : ℕ). get_or comes k 0) q ∙ fresh))
      at r (inr e) = ap (λ (x : ℕ). within x u) (get_or-set_other comes i r end 0 (eqb-false r i e))

  -- its node was free
  module _ (p : Lines) (busy : List ℕ) (b : Busy p comes busy u) (n : ℕ) (node : n < 8) (l : i < length p.processes) (on : unit p i ≡ n) (low : get_or busy n 0 ≤ u) where
    abbrev rows : List ℕ
    rows = set comes i end

    abbrev ends : List ℕ
    ends = set busy n end

    row_here : (k : ℕ) → k ≡ i → get_or rows k 0 ≡ end
    row_here k q = set_there comes i k end room q

    row_there : (k : ℕ) → (k ≡ i → ⊥) → get_or rows k 0 ≡ get_or comes k 0
    row_there k d = get_or-set_other comes i k end 0 d

    end_here : (m : ℕ) → m ≡ n → get_or ends m 0 ≡ end
    end_here m q = set_there busy n m end (omega (arith, b.long)) q

    end_there : (m : ℕ) → (m ≡ n → ⊥) → get_or ends m 0 ≡ get_or busy m 0
    end_there m d = get_or-set_other busy n m end 0 d

    -- a process of the node has come by the clock
    before : (k : ℕ) → k < length p.processes → unit p k ≡ n → get_or comes k 0 ≤ u
    before k m q = omega (arith, b.most k m, ap (λ (z : ℕ). get_or busy z 0) q)

    most_start : (k : ℕ) → k < length p.processes → (eqb k i ≡ true) ⊎ (eqb k i ≡ false) → (eqb (unit p k) n ≡ true) ⊎ (eqb (unit p k) n ≡ false) →
        get_or rows k 0 ≤ get_or ends (unit p k) 0
    most_start k m (inl e) f =
        let q : k ≡ i = eqb-true k i e in
        omega (arith, row_here k q, end_here (unit p k) (ap (unit p) q ∙ on))
    most_start k m (inr e) (inl f) =
        let q : unit p k ≡ n = eqb-true (unit p k) n f in
        omega (arith, row_there k (eqb-false k i e), end_here (unit p k) q, before k m q)
    most_start k m (inr e) (inr f) =
        omega (arith, row_there k (eqb-false k i e), end_there (unit p k) (eqb-false (unit p k) n f), b.most k m)

    last_start : (k : ℕ) → k < length p.processes → (eqb k i ≡ true) ⊎ (eqb k i ≡ false) → (eqb (unit p k) n ≡ true) ⊎ (eqb (unit p k) n ≡ false) →
        (get_or comes k 0 ≤ u) ⊎ (get_or comes k 0 ≡ get_or busy (unit p k) 0) → (get_or rows k 0 ≤ u) ⊎ (get_or rows k 0 ≡ get_or ends (unit p k) 0)
    last_start k m (inl e) f s =
        let q : k ≡ i = eqb-true k i e in
        inr (row_here k q ∙ sym (end_here (unit p k) (ap (unit p) q ∙ on)))
    last_start k m (inr e) (inl f) s = inl (omega (arith, row_there k (eqb-false k i e), before k m (eqb-true (unit p k) n f)))
    last_start k m (inr e) (inr f) (inl s) = inl (omega (arith, row_there k (eqb-false k i e)))
    last_start k m (inr e) (inr f) (inr s) =
        inr (row_there k (eqb-false k i e) ∙ s ∙ sym (end_there (unit p k) (eqb-false (unit p k) n f)))

    some_start : (m : ℕ) → (eqb m n ≡ true) ⊎ (eqb m n ≡ false) →
        (get_or busy m 0 ≡ 0) ⊎ ((k : ℕ) × (k < length p.processes) × (unit p k ≡ m) × (get_or comes k 0 ≡ get_or busy m 0)) →
        (get_or ends m 0 ≡ 0) ⊎ ((k : ℕ) × (k < length p.processes) × (unit p k ≡ m) × (get_or rows k 0 ≡ get_or ends m 0))
    some_start m (inl e) s =
        let q : m ≡ n = eqb-true m n e in
        inr (i, l, on ∙ sym q, row_here i (λ j. i) ∙ sym (end_here m q))
    some_start m (inr e) (inl s) = inl (end_there m (eqb-false m n e) ∙ s)
    some_start m (inr e) (inr s) =
        let d : m ≡ n → ⊥ = eqb-false m n e in
        inr (s.0, s.1, s.2, row_there s.0 (λ q. d (sym s.2 ∙ ap (unit p) q ∙ on)) ∙ s.3 ∙ sym (end_there m d))

    pub busy_start : Busy p (set comes i end) (set busy n end) u
    busy_start =
        record {
          most = λ k m. most_start k m (two (eqb k i)) (two (eqb (unit p k) n));
          last = λ k m. last_start k m (two (eqb k i)) (two (eqb (unit p k) n)) (b.last k m);
          some = λ m q. some_start m (two (eqb m n)) (b.some m q);
          long = length-set busy n end ∙ b.long;
        }
