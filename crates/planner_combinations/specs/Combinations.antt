-- What the arrays and the totals hold once the combinations of a plan are planned one after another: combination c's
-- row r stands at place c * ROWS + r.
-- Assumes nothing.
use Rattle.std.specs.Prelude.{ℕ, ◌+◌, ◌-◌, ◌*◌, ◌^◌, ◌≤◌, ◌<◌, ◌≡◌, List, map, eqb, length, get_or, set}
use Rattle.std.proofs.lemmas.List.Edits.{sets}
use Rattle.limits.specs.Limits.{NODES, ROWS, ENTRIES}
use Rattle.lists.specs.Lists.{keep, below, sum, greatest}
use Rattle.model.specs.Plan.{Lines}
use Rattle.model.specs.Bus.{rows, condition_row}
use Rattle.model.specs.Log.{Log, full_ticks, delay}
use Rattle.model.specs.Planning.{before, planned}
use Rattle.model.specs.Refusals.{nothing, plan_refusal}
use Rattle.model.specs.Table.{plans, passed_by, made_entries, result}
use Rattle.log_queries.specs.Holding.{Held}
use Rattle.plan_index.specs.declared.PlanIndex.{PlanIndex}
use Rattle.plan_layout.specs.Indexed.{Indexed}
use Rattle.planner_combination.specs.Events.{from_clock}
use Rattle.planner_combination.specs.Standing.{At}
use Rattle.table_entries.specs.Logs.{block, numbered, plan_of}
use Rattle.planner_combinations.specs.declared.Totals.{Totals}

-- a plan index of some plan in which refusals 2 to 9 find nothing
pub record Laid_out (b : PlanIndex) : Type 0 where
  pub plan : Lines
  pub passes : plan_refusal plan ≡ nothing
  pub indexed : Indexed plan b

-- the plan of combination c: its log, its delay, and in how many slots node n passes a ready item over, before tick t
-- and in all
abbrev pub log_of : Lines → ℕ → Log
log_of p c = (planned p (numbered p c)).log

abbrev pub delay_of : Lines → ℕ → ℕ
delay_of p c = delay p (full_ticks p) (log_of p c)

abbrev pub passes_by : Lines → ℕ → ℕ → ℕ → ℕ
passes_by p n c t = length (keep (eqb n) (before p (numbered p c) t).passed)

abbrev pub passes_of : Lines → ℕ → ℕ → ℕ
passes_of p n c = length (keep (eqb n) (planned p (numbered p c)).passed)

-- the arrays hold where the planning of combination c stands at a clock
pub record Ready (p : Lines) (c start : ℕ) (ends rows places counts noted : List ℕ) : Type 0 where
  pub tick : ℕ
  pub at_tick : At p (numbered p c) tick (from_clock start ends rows places counts noted)

-- The combinations below n are planned, and their counts are noted.
pub record Earlier (p : Lines) (n : ℕ) (comes place notes : List ℕ) : Type 0 where
  pub held : (c : ℕ) → c < n → Held p (log_of p c) (block comes c) (block place c)
  pub noting : (c : ℕ) → c < n → (k : ℕ) → k < length p.conditions → 0 < get_or (block comes c) (condition_row p k) 0 → (m : ℕ) → m < length p.slots →
      get_or notes (c * 56 + (k * 8 + m)) 0 ≡ passes_by p m c (get_or (block comes c) (condition_row p k) 0 - 1)
  pub counts : (c : ℕ) → c < n → (m : ℕ) → m < length p.slots → get_or notes (c * 56 + 48 + m) 0 ≡ passes_of p m c

-- The combinations below n are planned, whatever plan a plan index is of, and their counts are added: none has passed
-- an item over more often than it has rows.
pub record Before (b : PlanIndex) (n : ℕ) (comes place notes passed : List ℕ) : Type 0 where
  pub place_long : length place ≡ ENTRIES
  pub passed_long : length passed ≡ NODES
  pub passed_few : (k : ℕ) → k < b.slots → get_or passed k 0 ≤ ROWS * n
  pub earlier : (p : Lines) → plan_refusal p ≡ nothing → Indexed p b → Earlier p n comes place notes

-- Combination c is planned: its rows and what was noted are stored, its counts are added. `latest` is the tick at which
-- its last process ends, or 0.
pub record Stored (p : Lines) (c latest : ℕ) (comes place notes passed comes-after place_after notes_after passed-after : List ℕ) : Type 0 where
  pub rows : List ℕ
  pub places : List ℕ
  pub noted : List ℕ
  pub counts : List ℕ
  pub held : Held p (log_of p c) rows places
  pub noting : (k : ℕ) → k < length p.conditions → 0 < get_or rows (condition_row p k) 0 → (m : ℕ) → m < length p.slots →
      get_or noted (k * 8 + m) 0 ≡ passes_by p m c (get_or rows (condition_row p k) 0 - 1)
  pub noted_long : length noted ≡ 48
  pub counts_own : (m : ℕ) → m < length p.slots → get_or counts m 0 ≡ passes_of p m c
  pub counts_long : length counts ≡ 8
  pub rows_stored : comes-after ≡ sets comes (c * ROWS) rows
  pub places_stored : place_after ≡ sets place (c * ROWS) places
  pub notes_stored : notes_after ≡ sets (sets notes (c * 56) noted) (c * 56 + 48) counts
  pub delay : latest ≡ delay_of p c
  pub counted : (n : ℕ) → n < length p.slots → get_or passed-after n 0 ≡ get_or passed n 0 + passes_of p n c
  pub passed_long : length passed-after ≡ 8

-- a row of combination c that starts before a clock makes the same entry as in an earlier combination
abbrev pub TakenOver : Lines → ℕ → List ℕ → List ℕ → ℕ → Type 0
TakenOver p c rows-of-c lasting clock =
    (r : ℕ) → r < rows p → (get_or rows-of-c r 0 ≡ 0 → ⊥) → get_or rows-of-c r 0 - get_or lasting r 0 < clock → (d : ℕ) × (d < c) × (made_entries p r (plan_of p c) ≡ made_entries p r (plan_of p d))

-- The same, and up to which clock combination c is taken over is stored.
pub record One (p : Lines) (lasting : List ℕ) (c latest : ℕ) (comes place since notes passed comes-after place_after since-after notes_after passed-after : List ℕ) : Type 0 where
  pub stored : Stored p c latest comes place notes passed comes-after place_after notes_after passed-after
  pub clock : ℕ
  pub since_stored : since-after ≡ set since c clock
  pub taken_over : TakenOver p c stored.rows lasting clock

-- The combinations below n are planned. `latest` is the tick at which the last process of all ends, or 0.
pub record First (p : Lines) (lasting : List ℕ) (n latest : ℕ) (comes place since notes passed : List ℕ) : Type 0 where
  pub earlier : Earlier p n comes place notes
  pub taken_over : (c : ℕ) → c < n → TakenOver p c (block comes c) lasting (get_or since c 0)
  pub delay : latest ≡ greatest (map (delay_of p) (below n))
  pub counted : (k : ℕ) → k < length p.slots → get_or passed k 0 ≡ sum (map (passes_of p k) (below n))

-- All combinations are planned: the arrays hold the log of each, the totals are the worst delay and the pass-over
-- counts of the nodes, and a row that starts before the clock in `since` makes the same entry in an earlier
-- combination.
pub record PlannedAll (p : Lines) (lasting : List ℕ) (r : Totals) (comes place since : List ℕ) : Type 0 where
  pub held : (c : ℕ) → c < 2 ^ length p.conditions → Held p (planned p (numbered p c)).log (block comes c) (block place c)
  pub taken_over : (r c : ℕ) → r < rows p → c < 2 ^ length p.conditions → (get_or comes (c * ROWS + r) 0 ≡ 0 → ⊥) →
      get_or comes (c * ROWS + r) 0 - get_or lasting r 0 < get_or since c 0 → (d : ℕ) × (d < c) × (made_entries p r (plan_of p c) ≡ made_entries p r (plan_of p d))
  pub delay : r.delay ≡ (result p).delay
  pub passed : (n : ℕ) → n < length p.slots → get_or r.passed n 0 ≡ passed_by (plans p) n
  pub passed_few : (n : ℕ) → n < length p.slots → get_or r.passed n 0 ≤ ENTRIES
