-- The starts of the nodes for which something is new at a clock, and which of the processes that start ends first.
-- Assumes nothing.
use Rattle.std.specs.Prelude.{ℕ, ◌≤◌, ◌<◌, ◌≡◌, ◌⊎◌, List, ltb, length, get_or, if◌then◌else◌}
use Rattle.limits.specs.Limits.{NEVER}
use Rattle.planner_dispatch.specs.Starts.{Ends, start_by}

module _ (processes : ℕ) (remote from knownby unmet run asany intofirst into : List ℕ) (u : ℕ) (dispatchfirst dispatch ticks : List ℕ) (slots : ℕ) where
  -- a number starts, if it is that of a node
  unfoldable pub start_in : ℕ → Ends → Ends
  start_in n s = if ltb n slots then start_by processes remote from knownby unmet run asany intofirst into u dispatchfirst dispatch ticks n s else s

-- the answer where no process starts
abbrev pub no_end : ℕ
no_end = NEVER

-- `first` is the end of the process that ends first of those that have started since the nodes' last processes ended at
-- `before`.
pub record Soonest (slots u : ℕ) (before busy : List ℕ) (first : ℕ) : Type 0 where
  pub long : length busy ≡ 8
  pub most : (n : ℕ) → n < slots → u < get_or busy n 0 → (get_or busy n 0 ≡ get_or before n 0) ⊎ (first ≤ get_or busy n 0)
  pub one : (first ≡ no_end) ⊎ ((n : ℕ) × (n < slots) × (u < first) × (first ≡ get_or busy n 0))
