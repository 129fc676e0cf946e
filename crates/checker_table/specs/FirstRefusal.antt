-- The first of refusals 15 to 19 that applies in one combination, in the words of a plan's plan index and of the rows
-- of the combination.
-- Assumes nothing.
use Rattle.std.specs.Prelude.{Bool, List, ℕ, if◌then◌else◌}
use Rattle.plan_index.specs.declared.PlanIndex.{PlanIndex}
use Rattle.plan_index.specs.Index.{Bounded}
use Rattle.log_rows.specs.Rows.{Rows}
use Rattle.checker_rows.specs.MetArrays.{Readable}
use Rattle.checker_rows.specs.RowOrder.{RowOrder}
use Rattle.checker_rules.specs.Rules.{some_unknown, some_off, some_overlap, Slotted}
use Rattle.checker_frames.specs.SharedBytes.{some_share, Sized}
use Rattle.checker_inputs.specs.Inputs.{some_early}

-- the number of the first of five sentences that applies, and 20 if none does
abbrev pub first_of : Bool → Bool → Bool → Bool → Bool → ℕ
first_of a b c d e = if a then 15 else if b then 16 else if c then 17 else if d then 18 else if e then 19 else 20

-- the first of refusals 15 to 19 that applies in a combination; `known` has the known bits of the met columns
unfoldable pub first_in : PlanIndex → Rows → List ℕ → ℕ
first_in b s known = first_of (some_unknown b s known) (some_early b s) (some_off b s) (some_overlap b s) (some_share b s)

-- the rows of a combination in which 14 finds nothing, with a plan index of the plan, are small enough for 15 to 19
pub record Tried (b : PlanIndex) (s : Rows) : Type 0 where
  pub bounded : Bounded b
  pub row_order : RowOrder b
  pub readable : Readable s.comes b.span
  pub slotted : Slotted b s.comes
  pub sized : Sized s.comes s.place
