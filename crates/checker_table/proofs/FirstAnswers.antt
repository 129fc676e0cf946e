-- The answer where a refusal of the plan, 12 or 13 applies is that of the model.
-- Assumes nothing.
use mathlib.Core.Path.{◌≡◌}
use mathlib.Core.Bool.{true}
use mathlib.Core.List.{List}
use Prim.Native.Nat.{ℕ, ◌%◌}
use Rattle.std.specs.Prelude.{Err}
use lib.ListN.{length}
use borrow.Author.Tests.{eq-eqb, ne_eqb}
use Rattle.lists.specs.Lists.{any}
use Rattle.model.specs.Plan.{Lines}
use Rattle.model.specs.Refusals.{nothing, refused, or_else, plan_refusal}
use Rattle.model.specs.Table.{entries_of}
use Rattle.model.specs.Checking.{ill_formed, table_refusal, check}
use Rattle.checker_table.specs.Verdict.{answer_of}

module _ (p : Lines) (words : List ℕ) (stated : ℕ) where
  pub answer_12 : (length words % 5 ≡ 0 → ⊥) → Err 12 ≡ answer_of (table_refusal p words stated)
  unfolding table_refusal answer_of
  answer_12 n = rw (ne_eqb (length words % 5) 0 n)

  pub answer_13 : length words % 5 ≡ 0 → any (ill_formed p) (entries_of words) ≡ true → Err 13 ≡ answer_of (table_refusal p words stated)
  unfolding table_refusal answer_of
  answer_13 q e = rw (eq-eqb (length words % 5) 0 q, e)

  -- a refusal of the plan, and none
  pub answer_plan : (n : ℕ) → plan_refusal p ≡ refused n → Err n ≡ answer_of (check p words stated)
  unfolding check or_else answer_of
  answer_plan n e = rw e

  pub answer_words : plan_refusal p ≡ nothing → answer_of (table_refusal p words stated) ≡ answer_of (check p words stated)
  unfolding check or_else
  answer_words e = rw e
