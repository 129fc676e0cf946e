-- The clock at which a process next ends, kept from event to event, in the words of the arrays.
-- Assumes nothing.
use Rattle.std.specs.Prelude.{ℕ, ◌<◌, ◌≡◌, List, get_or}
use Rattle.planner_sends.specs.Clocks.{come_by}

-- `ends` is the clock at which a process next ends, the event's own among them; at the clock from which planning begins
-- it may be that clock in any case.
pub record Ending (slots u : ℕ) (busy : List ℕ) (ends : ℕ) : Type 0 where
  pub end_now : (n : ℕ) → n < slots → get_or busy n 0 ≡ u → ends ≡ u
  pub end_ahead : (ends ≡ u → ⊥) → ends ≡ come_by 0 busy u slots
