-- A listing for a plan that refusals 2 to 9 apply to is answered with the plan's refusal.
-- Assumes nothing.
use mathlib.Core.Path.{◌≡◌, refl}
use mathlib.Core.List.{List}
use Prim.Native.Nat.{ℕ}
use Rattle.std.specs.Prelude.{Err}
use Rattle.model.specs.Plan.{Lines}
use Rattle.model.specs.Refusals.{refused, plan_refusal}
use Rattle.model.specs.ListingText.{by_plan}
use Rattle.refusals.specs.declared.Refusal.{Refusal}
use Rattle.refusals.specs.Numbers.{number_of}
use Rattle.checker_table.specs.Verdict.{answer_of}
use Rattle.checker_listing.specs.Listing.{Checks}

pub plan_refused : (p : Lines) (bytes : List ℕ) (r : Refusal) → plan_refusal p ≡ refused (number_of r) → Checks p bytes (Err r)
unfolding answer_of
plan_refused p bytes r e = record { refusal = refused (number_of r); of_listing = by_plan _ e; answer = refl }
