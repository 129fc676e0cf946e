-- An input in two parts: the plan, and behind the line feed of the first empty line the listing.
-- Assumes nothing.
use Rattle.std.specs.Prelude.{ℕ, ◌+◌, ◌≤◌, ◌≡◌, List, length, take, drop}
use Rattle.model.specs.ListingText.{plan_part, listing_part}

pub record Parted (input : List ℕ) (at : ℕ) : Type 0 where
  pub within : at ≤ length input
  pub first : take at input ≡ plan_part input
  pub second : drop (at + 1) input ≡ listing_part input
