-- The answer to a table of more than 12,672 entries in which 12 and 13 find nothing.
-- Assumes nothing.
use mathlib.Core.Path.{◌≡◌, refl}
use mathlib.Core.Bool.{false}
use mathlib.Core.List.{List, [], ◌∷◌}
use Prim.Native.Nat.{ℕ, ◌/◌, ◌%◌, ◌<◌}
use Rattle.std.specs.Prelude.{Err}
use native.Mathlib.Omega.{arith}
use lib.ListN.{length}
use borrow.Author.Tests.{eq-eqb}
use Rattle.lists.specs.Lists.{any}
use Rattle.model.specs.Plan.{Lines}
use Rattle.model.specs.Refusals.{nothing, plan_refusal}
use Rattle.model.specs.Table.{entries_of}
use Rattle.model.specs.Checking.{ill_formed, table_refusal}
use Rattle.laws.proofs.Counting.{too_many}
use Rattle.checker_table.specs.Verdict.{answer_of}

-- five words an entry
entries_count : (words : List ℕ) → length (entries_of words) ≡ length words / 5
entries_count [] = refl
entries_count (a ∷ []) = refl
entries_count (a ∷ b ∷ []) = refl
entries_count (a ∷ b ∷ c ∷ []) = refl
entries_count (a ∷ b ∷ c ∷ d ∷ []) = refl
entries_count (a ∷ b ∷ c ∷ d ∷ e ∷ words) = let r = entries_count words in omega arith

module _ (p : Lines) (words : List ℕ) (stated : ℕ) where
  pub answer_14 : plan_refusal p ≡ nothing → length words % 5 ≡ 0 → any (ill_formed p) (entries_of words) ≡ false → 63360 < length words →
      Err 14 ≡ answer_of (table_refusal p words stated)
  unfolding table_refusal answer_of
  answer_14 fine q formed l =
      rw (eq-eqb (length words % 5) 0 q, formed, too_many p fine (entries_of words) formed (omega (arith, entries_count words)))
