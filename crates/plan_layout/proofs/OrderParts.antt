-- A part of an order's array, read place by place, and that it is empty just where its places are the same.
-- Assumes nothing.
use mathlib.Core.Path.{◌≡◌, sym, ap, ◌∙◌}
use mathlib.Core.Logic.{◌⊎◌, inl, inr}
use mathlib.Core.Bool.{true, false, not}
use mathlib.Core.List.{List, [], ◌∷◌, map}
use Prim.Native.Nat.{ℕ, zero, suc, ◌+◌, ◌-◌, ◌≤◌}
use native.Mathlib.Omega.{arith}
use lib.Dec.{ltb}
use lib.ListN.{length}
use lib.Seq.{slice, slice_empty, slice-cons, length-slice}
use borrow.Author.Tests.{ltb-true, ltb-false}
use Rattle.lists.specs.Lists.{null, upfrom}
use Rattle.lists.proofs.Tests.{two}
use Rattle.plan.specs.Tests.{at}
use Rattle.log_queries.specs.Reading.{part}
use Rattle.plan_order.proofs.Laying.{Part}

slice_run : (xs : List ℕ) (n a b : ℕ) → a + n ≡ b → b ≤ length xs → slice a b xs ≡ map (at xs) (upfrom a n)
slice_run xs zero a b q h = let e : a ≡ b = omega arith in ap (λ (k : ℕ). slice k b xs) e ∙ slice_empty b xs
slice_run xs (suc n) a b q h = slice-cons a b xs 0 (omega arith) h ∙ ap (λ (ys : List ℕ). at xs a ∷ ys) (slice_run xs n (suc a) b (omega arith) h)

part_slice : (xs : List ℕ) (a b : ℕ) → a ≤ b → b ≤ length xs → part xs a b ≡ slice a b xs
unfolding part
part_slice xs a b l h = sym (slice_run xs (b - a) a b (omega arith) h)

module _ (first member : List ℕ) (k : ℕ) (list : List ℕ) (w : Part first member k list) (h : length member ≡ 128) where
  pub part_same : part member (at first k) (at first (k + 1)) ≡ list
  part_same = part_slice member (at first k) (at first (k + 1)) w.rising (omega (arith, w.inside)) ∙ w.holds

  pub null_same : null list ≡ not (ltb (at first k) (at first (k + 1)))
  null_same = by list (two (ltb (at first k) (at first (k + 1)))) (sym (ap length w.holds) ∙ length-slice (at first k) (at first (k + 1)) member (omega (arith, w.inside)))
    where
      by : (xs : List ℕ) → (ltb (at first k) (at first (k + 1)) ≡ true) ⊎ (ltb (at first k) (at first (k + 1)) ≡ false) →
          length xs ≡ at first (k + 1) - at first k → null xs ≡ not (ltb (at first k) (at first (k + 1)))
      by [] (inl e) q = absurd (let l = ltb-true (at first k) (at first (k + 1)) e in omega arith)
      by [] (inr e) q = rw e
      by (x ∷ xs) (inl e) q = rw e
      by (x ∷ xs) (inr e) q = absurd (let l = ltb-false (at first k) (at first (k + 1)) e in omega arith)
