-- Arrays that hold the logs of all combinations of a plan, and the entries that numbers stand for.
-- Assumes nothing.
use Rattle.std.specs.Prelude.{ℕ, ◌+◌, ◌-◌, ◌*◌, ◌/◌, ◌%◌, ◌^◌, ◌<◌, ◌≡◌, Bool, List, [], length, get_or}
use Rattle.std.proofs.Math.Seq.{slice}
use Rattle.limits.specs.Limits.{ROWS}
use Rattle.model.specs.Plan.{Lines}
use Rattle.model.specs.Activity.{combinations}
use Rattle.model.specs.Bus.{rows}
use Rattle.model.specs.Log.{full_ticks, span}
use Rattle.model.specs.Planning.{planned}
use Rattle.model.specs.Table.{Entry, Planned, made_entries}
use Rattle.log_queries.specs.Holding.{Held}

-- the entry of row r that a number stands for
abbrev pub entry_from : ℕ → ℕ → Entry
entry_from r x = record { row = r; known = x / 4096 % 64; values = x / 64 % 64; tick = x / 262144; place = x % 64 }

-- the part of an array by combination and row that is combination c's
abbrev pub block : List ℕ → ℕ → List ℕ
block xs c = slice (c * ROWS) (c * ROWS + ROWS) xs

-- combination number c, and its plan
abbrev pub numbered : Lines → ℕ → List Bool
numbered p c = get_or (combinations p) c []

abbrev pub plan_of : Lines → ℕ → Planned
plan_of p c = record { combination = numbered p c; state = planned p (numbered p c) }

-- The arrays hold the logs of all combinations. A row that `since` says was taken over has the same entry in an earlier
-- combination.
pub record Logs (p : Lines) (comes place since lasting : List ℕ) : Type 0 where
  pub held : (c : ℕ) → c < 2 ^ length p.conditions → Held p (planned p (numbered p c)).log (block comes c) (block place c)
  pub spans : (r : ℕ) → r < rows p → get_or lasting r 0 ≡ span p (full_ticks p) r
  pub taken_over : (r c : ℕ) → r < rows p → c < 2 ^ length p.conditions → (get_or comes (c * ROWS + r) 0 ≡ 0 → ⊥) →
      get_or comes (c * ROWS + r) 0 - get_or lasting r 0 < get_or since c 0 → (d : ℕ) × (d < c) × (made_entries p r (plan_of p c) ≡ made_entries p r (plan_of p d))
