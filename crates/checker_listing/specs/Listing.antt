-- A listing text checked for a plan: what the answer stands for.
-- Assumes nothing.
use Rattle.std.specs.Prelude.{ℕ, ◌≡◌, List, Result}
use Rattle.model.specs.Plan.{Lines}
use Rattle.model.specs.Refusals as m
use Rattle.model.specs.ListingText.{ChecksListing}
use Rattle.refusals.specs.declared.Refusal.{Refusal}
use Rattle.refusals.specs.Numbers.{numbered}
use Rattle.checker_table.specs.Verdict.{answer_of}

-- the answer to a listing text for a plan: the first sentence that applies, as the model has it
pub record Checks (p : Lines) (bytes : List ℕ) (r : Result (Unit {0}) Refusal) : Type 0 where
  pub refusal : m.Refusal
  pub of_listing : ChecksListing p bytes refusal
  pub answer : numbered r ≡ answer_of refusal
