-- Counts are added to totals node by node: each total is the sum, and the others are as they were.
-- Assumes nothing.
use mathlib.Core.Path.{◌≡◌, refl, sym, ap, ◌∙◌}
use mathlib.Core.Bool.{Bool, true, false}
use mathlib.Core.List.{List}
use Prim.Native.Nat.{ℕ, zero, suc, ◌+◌, ◌≤◌, ◌<◌}
use native.Mathlib.Numerals.{add-one}
use native.Mathlib.Omega.{arith}
use lib.Dec.{eqb}
use lib.ListN.{length, get_or, set, length-set}
use lib.Seq.{get_or-set_same, get_or-set_other}
use borrow.Author.Tests.{eqb-true, eqb-false}
use Rattle.planner_prefix.specs.Stored.{added}

module _ (counts totals : List ℕ) where
  pub added_long : (n : ℕ) → length (added counts totals n) ≡ length totals
  unfolding added
  added_long zero = refl
  added_long (suc n) = length-set (added counts totals n) n (get_or (added counts totals n) n 0 + get_or counts n 0) ∙ added_long n

  pub added_past : (n k : ℕ) → n ≤ k → get_or (added counts totals n) k 0 ≡ get_or totals k 0
  unfolding added
  added_past zero k l = refl
  added_past (suc n) k l =
      get_or-set_other (added counts totals n) n k (get_or (added counts totals n) n 0 + get_or counts n 0) 0 (λ q. omega arith) ∙ added_past n k (omega arith)

  pub added_at : (n k : ℕ) → k < n → n ≤ length totals → get_or (added counts totals n) k 0 ≡ get_or totals k 0 + get_or counts k 0
  unfolding added
  added_at zero k l h = absurd (omega arith)
  added_at (suc n) k l h = at (eqb k n) refl (λ m. added_at n k m (omega arith))
    where
      at : (b : Bool) → eqb k n ≡ b → (k < n → get_or (added counts totals n) k 0 ≡ get_or totals k 0 + get_or counts k 0) → get_or (set (added counts totals n) n (get_or (added counts totals n) n 0 + get_or counts n 0)) k 0 ≡ get_or totals k 0 + get_or counts k 0
      at true e r =
          let q : k ≡ n = eqb-true k n e in
          rw q (
          get_or-set_same (added counts totals n) n (get_or (added counts totals n) n 0 + get_or counts n 0) 0 (omega (arith, added_long n))
          ∙ ap (λ (x : ℕ). x + get_or counts n 0) (added_past n n (omega arith)))
      at false e r =
          let q : k ≡ n → ⊥ = eqb-false k n e in
          get_or-set_other (added counts totals n) n k (get_or (added counts totals n) n 0 + get_or counts n 0) 0 q ∙ r (omega (arith, q))

  -- one turn of the loop
  pub added_next : (n : ℕ) (now : List ℕ) → now ≡ added counts totals n → set now n (get_or now n 0 + get_or counts n 0) ≡ added counts totals (n + 1)
  unfolding added
  added_next n now e = ap (λ (xs : List ℕ). set xs n (get_or xs n 0 + get_or counts n 0)) e ∙ ap (added counts totals) (sym (add-one n))
