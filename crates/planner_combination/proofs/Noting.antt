-- What is noted as values become known: for each condition whose value becomes known at the clock the counts, for the
-- others what was noted before.
-- Assumes nothing.
use Rattle.std.specs.Prelude.{if◌then◌else◌}
use Prim.Native.Nat.{ℕ, zero, suc, ◌+◌, ◌*◌, ◌≤◌, ◌<◌}
use mathlib.Core.Path.{◌≡◌, refl, sym, ◌∙◌, subst}
use mathlib.Core.Logic.{◌⊎◌, inl, inr}
use mathlib.Core.Bool.{Bool, true, false}
use mathlib.Core.List.{List}
use native.Mathlib.Omega.{arith}
use lib.Dec.{eqb}
use lib.ListN.{length, get_or}
use lib.Seq.{sets, length-sets}
use Rattle.lists.proofs.Tests.{below_suc}
use Rattle.lists.proofs.Stores.{sets_before, sets_after, sets_at}
use Rattle.planner_combination.specs.Events.{notes_below}

module _ (comes : List ℕ) (u conditionrow : ℕ) (passed noted : List ℕ) (eight : length passed ≡ 8) (all : length noted ≡ 48) where
  pub notes_long : (c : ℕ) → length (notes_below comes u conditionrow passed c noted) ≡ 48
  unfolding notes_below
  notes_long zero = all
  notes_long (suc c) = at (eqb (get_or comes (conditionrow + c) 0) u) (notes_long c)
    where
      at : (b : Bool) → length (notes_below comes u conditionrow passed c noted) ≡ 48 →
          length (if b then sets (notes_below comes u conditionrow passed c noted) (c * 8) passed else notes_below comes u conditionrow passed c noted) ≡ 48
      at true q = length-sets (notes_below comes u conditionrow passed c noted) (c * 8) passed ∙ q
      at false q = q

  abbrev so_far : ℕ → List ℕ
  so_far c = notes_below comes u conditionrow passed c noted

  notes_after : (c k n : ℕ) → c ≤ k → get_or (notes_below comes u conditionrow passed c noted) (k * 8 + n) 0 ≡ get_or noted (k * 8 + n) 0
  unfolding notes_below
  notes_after zero k n l = refl
  notes_after (suc c) k n l = at (eqb (get_or comes (conditionrow + c) 0) u) (notes_after c k n (omega arith))
    where
      at : (b : Bool) → get_or (so_far c) (k * 8 + n) 0 ≡ get_or noted (k * 8 + n) 0 → get_or (if b then sets (so_far c) (c * 8) passed else so_far c) (k * 8 + n) 0 ≡ get_or noted (k * 8 + n) 0
      at true q = sets_after (so_far c) (c * 8) (k * 8 + n) passed (omega (arith, eight)) ∙ q
      at false q = q

  pub notes_at : (c k n : ℕ) → c ≤ 6 → k < c → n < 8 →
      get_or (notes_below comes u conditionrow passed c noted) (k * 8 + n) 0 ≡ (if eqb (get_or comes (conditionrow + k) 0) u then get_or passed n 0 else get_or noted (k * 8 + n) 0)
  unfolding notes_below
  notes_at zero k n m l x = absurd (omega arith)
  notes_at (suc c) k n m l x = at (below_suc k c l) (λ z. notes_at c k n (omega arith) z x)
    where
      wanted : ℕ
      wanted = if eqb (get_or comes (conditionrow + k) 0) u then get_or passed n 0 else get_or noted (k * 8 + n) 0

      earlier : (b : Bool) → k < c → get_or (so_far c) (k * 8 + n) 0 ≡ wanted → get_or (if b then sets (so_far c) (c * 8) passed else so_far c) (k * 8 + n) 0 ≡ wanted
      earlier true z q = sets_before (so_far c) (c * 8) (k * 8 + n) passed (omega arith) ∙ q
      earlier false z q = q

      own : (b : Bool) → get_or (if b then sets (so_far c) (c * 8) passed else so_far c) (c * 8 + n) 0 ≡ (if b then get_or passed n 0 else get_or noted (c * 8 + n) 0)
      own true = sets_at (so_far c) (c * 8) passed n (omega (arith, eight)) (omega (arith, eight, notes_long c))
      own false = notes_after c c n (omega arith)

      at : (k < c) ⊎ (k ≡ c) → (k < c → get_or (so_far c) (k * 8 + n) 0 ≡ wanted) →
          get_or (if eqb (get_or comes (conditionrow + c) 0) u then sets (so_far c) (c * 8) passed else so_far c) (k * 8 + n) 0 ≡ wanted
      at (inl z) h = earlier (eqb (get_or comes (conditionrow + c) 0) u) z (h z)
      at (inr q) h =
          subst (λ (j : ℕ). get_or (if eqb (get_or comes (conditionrow + c) 0) u then sets (so_far c) (c * 8) passed else so_far c) (j * 8 + n) 0 ≡ (if eqb (get_or comes (conditionrow + j) 0) u then get_or passed n 0 else get_or noted (j * 8 + n) 0)) (sym q)
          (own (eqb (get_or comes (conditionrow + c) 0) u))
