-- What is found in one combination or in all, with the number of the refusal.
-- Assumes nothing.
use Rattle.std.specs.Prelude.{ℕ, Option, None, Some, ◌<◌}
use Rattle.refusals.specs.declared.Refusal.{Refusal}
use Rattle.refusals.specs.Numbers.{number_of}
use Rattle.checker_table.specs.declared.verdict.Found.{Found}

-- the number of the first refusal that applies, and 20 if none does
abbrev pub first_number : Option Refusal → ℕ
first_number None = 20
first_number (Some r) = number_of r

-- a refusal that is tried before 20, or none
abbrev pub Early : Option Refusal → Type 0
Early None = Unit {0}
Early (Some r) = number_of r < 20

-- what is found: the number of the first of refusals 14 to 19 that applies, 20 if none does, and the delay
pub record Finding : Type 0 where
  pub first : ℕ
  pub delay : ℕ

-- what is found, in memory
abbrev pub finding_of : Found → Finding
finding_of f = record { first = first_number f.first; delay = f.delay }
