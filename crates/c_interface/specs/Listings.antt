-- A listing text checked for a plan text: the number answered.
-- Assumes nothing.
use Rattle.std.specs.Prelude.{ℕ, ◌≡◌, List}
use Rattle.model.specs.Refusals.{Refusal}
use Rattle.model.specs.ListingText.{ChecksTexts}
use Rattle.c_check.specs.Checks.{checked_number}

pub record ChecksListingText (text listing : List ℕ) (answer : ℕ) : Type 0 where
  pub refusal : Refusal
  pub of_texts : ChecksTexts text listing refusal
  pub number : answer ≡ checked_number refusal
