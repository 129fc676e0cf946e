-- What lets a free node be passed by at an event: it is not in the mask of the nodes for which something is new at the
-- clock.
-- Assumes nothing.
use Rattle.std.specs.Prelude.{◌≡◌, false, List, ℕ, ◌+◌, ◌≤◌, ◌<◌, get_or}
use Rattle.model.specs.Listing.{bit}
use Rattle.planner_dispatch.specs.Starts.{can_start}

-- none of the processes in the dispatch order of node n can start
abbrev pub Idle : ℕ → List ℕ → List ℕ → List ℕ → List ℕ → List ℕ → List ℕ → List ℕ → List ℕ → ℕ → List ℕ → List ℕ → List ℕ → ℕ → Type 0
Idle processes remote from knownby unmet run asany intofirst into u dispatchfirst dispatch comes n =
    (j : ℕ) → get_or dispatchfirst n 0 ≤ j → j < get_or dispatchfirst (n + 1) 0 →
    can_start processes remote from knownby unmet run asany intofirst into u comes (get_or dispatch j 0) ≡ false

pub record Unchanged (processes slots : ℕ) (remote from knownby unmet run asany intofirst into dispatchfirst dispatch ticks : List ℕ) (u new : ℕ) (busy comes : List ℕ) : Type 0 where
  -- a free node that is not in the mask has no process that can start
  pub idle : (n : ℕ) → n < slots → bit new n ≡ false → get_or busy n 0 ≤ u →
      Idle processes remote from knownby unmet run asany intofirst into u dispatchfirst dispatch comes n
  -- what stands in the dispatch order of a node are processes, and no process stands in the turns of two nodes
  pub members : (n j : ℕ) → n < slots → get_or dispatchfirst n 0 ≤ j → j < get_or dispatchfirst (n + 1) 0 → get_or dispatch j 0 < processes
  pub own : (n m j k : ℕ) → n < slots → m < slots → get_or dispatchfirst n 0 ≤ j → j < get_or dispatchfirst (n + 1) 0 → get_or dispatchfirst m 0 ≤ k → k < get_or dispatchfirst (m + 1) 0 →
      get_or dispatch j 0 ≡ get_or dispatch k 0 → n ≡ m
  -- a process lasts a tick or more
  pub ticks_one : (i : ℕ) → i < processes → 1 ≤ get_or ticks i 0
