-- Arrays by node that hold where its last process ends, and the processes of each node in dispatch order.
-- Assumes nothing.
use Rattle.std.specs.Prelude.{ℕ, ◌+◌, ◌<◌, ◌≤◌, ◌≡◌, ◌⊎◌, List, eqb, length, get_or}
use Rattle.lists.specs.Lists.{keep}
use Rattle.model.specs.Plan.{Lines, unit}
use Rattle.model.specs.Planning.{dispatch_order}
use Rattle.log_queries.specs.Reading.{part}

-- `busy` has, by node, the greatest end of its processes in `comes`, 0 if it has started none; and of the processes of
-- a node only the last may end after the clock.
pub record Busy (p : Lines) (comes busy : List ℕ) (u : ℕ) : Type 0 where
  pub most : (i : ℕ) → i < length p.processes → get_or comes i 0 ≤ get_or busy (unit p i) 0
  pub last : (i : ℕ) → i < length p.processes → (get_or comes i 0 ≤ u) ⊎ (get_or comes i 0 ≡ get_or busy (unit p i) 0)
  pub some : (n : ℕ) → n < length p.slots → (get_or busy n 0 ≡ 0) ⊎ ((i : ℕ) × (i < length p.processes) × (unit p i ≡ n) × (get_or comes i 0 ≡ get_or busy n 0))
  pub long : length busy ≡ 8

-- the processes of each node stand in dispatch order
abbrev pub DispatchOrders : Lines → List ℕ → List ℕ → Type 0
DispatchOrders p dispatchfirst dispatch =
    (n : ℕ) → n < length p.slots → part dispatch (get_or dispatchfirst n 0) (get_or dispatchfirst (n + 1) 0) ≡ keep (λ i. eqb (unit p i) n) (dispatch_order p)
