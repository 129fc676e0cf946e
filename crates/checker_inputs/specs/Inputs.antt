-- Refusal 16 of one combination, in the words of arrays by row. `comes` has 0 where no entry of the row is met, else
-- the met entry's tick plus what the row lasts, plus 1; `span` has what the row lasts. A clock is a tick plus 1. The
-- other arrays are those of a plan's plan index, and `active` has, by process, 0 where it is not active.
-- Assumes nothing.
use Rattle.std.specs.Prelude.{Bool, not, ◌&&◌, List, ℕ, ◌-◌, eqb, ltb, get_or, if◌then◌else◌}
use Rattle.lists.specs.Lists.{any}
use Rattle.plan_index.specs.declared.PlanIndex.{PlanIndex}
use Rattle.log_rows.specs.Rows.{Rows}
use Rattle.log_queries.specs.Reading.{came_by, placed_by, edges_into, delivered_by}
use Rattle.checker_rows.specs.MetArrays.{some, start_by}

-- 16: a carrying edge has not delivered by a clock
unfoldable pub misses_by : ℕ → List ℕ → List ℕ → List ℕ → List ℕ → List ℕ → List ℕ → ℕ → ℕ → Bool
misses_by processes remote from knownby unmet comes active u e =
    not (eqb (get_or active (get_or from e 0) 0) 0) && (eqb (get_or unmet e 0) 0 && not (delivered_by from knownby unmet comes u processes remote e))

-- the process that sends the item of a row
unfoldable pub sends_by : List ℕ → List ℕ → ℕ → ℕ → ℕ → ℕ
sends_by from decider processes conditionrow r = if ltb r conditionrow then get_or from (r - processes) 0 else get_or decider (r - conditionrow) 0

-- 16: a process starts before a carrying edge into it has delivered, or an item before its sender's end
module _ (processes conditionrow : ℕ) (remote from knownby unmet decider first into active comes span : List ℕ) where
  unfoldable pub row_early_by : ℕ → Bool
  row_early_by r =
      placed_by comes r
      && (if ltb r processes
      then any (misses_by processes remote from knownby unmet comes active (start_by comes span r)) (edges_into first into r)
      else not (came_by comes (start_by comes span r) (sends_by from decider processes conditionrow r)))

  unfoldable pub too_early_by : ℕ → Bool
  too_early_by rows = some row_early_by 0 rows

-- the same by a plan index and the rows of a combination
abbrev pub sender_in : PlanIndex → ℕ → ℕ
sender_in b = sends_by b.from b.decider b.processes b.conditionrow

module _ (b : PlanIndex) (s : Rows) where
  abbrev pub edge_misses : ℕ → ℕ → Bool
  edge_misses = misses_by b.processes b.remote b.from b.knownby s.unmet s.comes s.run

  abbrev pub row_early_in : ℕ → Bool
  row_early_in = row_early_by b.processes b.conditionrow b.remote b.from b.knownby s.unmet b.decider b.intofirst b.into s.run s.comes b.span

  abbrev pub some_early : Bool
  some_early =
      too_early_by b.processes b.conditionrow b.remote b.from b.knownby s.unmet b.decider b.intofirst b.into s.run s.comes b.span b.rows
