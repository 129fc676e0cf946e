-- The number of the first of refusals 15 to 19 that applies, by which of the tests hold.
-- Assumes nothing.
use mathlib.Core.Path.{◌≡◌}
use mathlib.Core.Bool.{true, false}
use mathlib.Core.List.{List}
use Prim.Native.Nat.{ℕ}
use Rattle.plan_index.specs.declared.PlanIndex.{PlanIndex}
use Rattle.log_rows.specs.Rows.{Rows}
use Rattle.checker_rules.specs.Rules.{some_unknown, some_off, some_overlap}
use Rattle.checker_frames.specs.SharedBytes.{some_share}
use Rattle.checker_inputs.specs.Inputs.{some_early}
use Rattle.checker_table.specs.FirstRefusal.{first_in}

module _ (b : PlanIndex) (s : Rows) (known : List ℕ) where
  pub first_15 : some_unknown b s known ≡ true → 15 ≡ first_in b s known
  unfolding first_in
  first_15 g = rw g

  pub first_16 : some_unknown b s known ≡ false → some_early b s ≡ true → 16 ≡ first_in b s known
  unfolding first_in
  first_16 g e = rw (g, e)

  pub first_17 : some_unknown b s known ≡ false → some_early b s ≡ false → some_off b s ≡ true → 17 ≡ first_in b s known
  unfolding first_in
  first_17 g e o = rw (g, e, o)

  pub first_18 : some_unknown b s known ≡ false → some_early b s ≡ false → some_off b s ≡ false → some_overlap b s ≡ true → 18 ≡ first_in b s known
  unfolding first_in
  first_18 g e o l = rw (g, e, o, l)

  pub first_19 : some_unknown b s known ≡ false → some_early b s ≡ false → some_off b s ≡ false → some_overlap b s ≡ false → some_share b s ≡ true → 19 ≡ first_in b s known
  unfolding first_in
  first_19 g e o l s = rw (g, e, o, l, s)

  pub first_none : some_unknown b s known ≡ false → some_early b s ≡ false → some_off b s ≡ false → some_overlap b s ≡ false → some_share b s ≡ false → 20 ≡ first_in b s known
  unfolding first_in
  first_none g e o l s = rw (g, e, o, l, s)
