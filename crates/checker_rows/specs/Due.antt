-- The rows that are due in one combination, and whether each is met as often as it is due, in the words of arrays. By
-- process: `run` has 1 where it is active. By edge: `from` has the sender, `unmet` 1 where the combination does not
-- meet the `when`, `remote` not 0 where it is between nodes. By condition: `decider` has the process that decides it.
-- `conditionrow` is the row of condition 0.
-- Assumes nothing.
use Rattle.std.specs.Prelude.{ℕ, ◌-◌, Bool, not, List, eqb, ltb, get_or, replicate, if◌then◌else◌}
use Rattle.limits.specs.Limits.{ROWS}
use Rattle.lists.specs.Lists.{any, below, fill}
use Rattle.log_queries.specs.Reading.{may_run_by}
use Rattle.log_rows.specs.Rows.{Rows, with_run, with_unmet, with_comes}
use Rattle.plan_index.specs.declared.PlanIndex.{PlanIndex}
use Rattle.plan_layout.specs.Unmet.{unmet_in}

-- 1 where edge e is between nodes, its `when` is met and its sender is active
abbrev pub due_edge : List ℕ → List ℕ → List ℕ → List ℕ → ℕ → ℕ
due_edge from unmet remote run e = if eqb (get_or remote e 0) 0 then 0 else if eqb (get_or unmet e 0) 0 then get_or run (get_or from e 0) 0 else 0

-- 1 where a row is due: an active process, a carrying edge between nodes, an active decider's broadcast
abbrev pub due_row : ℕ → ℕ → List ℕ → List ℕ → List ℕ → List ℕ → List ℕ → ℕ → ℕ
due_row processes conditionrow from unmet remote decider run r =
    if ltb r processes then get_or run r 0 else if ltb r conditionrow then due_edge from unmet remote run (r - processes) else get_or run (get_or decider (r - conditionrow) 0) 0

-- which of the first rows are due, given which processes are active
unfoldable pub due_by : ℕ → ℕ → ℕ → List ℕ → List ℕ → List ℕ → List ℕ → List ℕ → List ℕ
due_by processes conditionrow rows from unmet remote decider run = fill ROWS (due_row processes conditionrow from unmet remote decider run) rows

-- the same by a plan index and the rows of a combination
module _ (b : PlanIndex) (s : Rows) where
  abbrev pub edge_due_in : ℕ → ℕ
  edge_due_in = due_edge b.from s.unmet b.remote s.run

  abbrev pub row_due_in : ℕ → ℕ
  row_due_in = due_row b.processes b.conditionrow b.from s.unmet b.remote b.decider s.run

  abbrev pub due_in : List ℕ
  due_in = due_by b.processes b.conditionrow b.rows b.from s.unmet b.remote b.decider s.run

-- the processes that are active in a combination: those that may run where every row is over
unfoldable pub active_by : PlanIndex → List ℕ → List ℕ
active_by b unmet = may_run_by b.from b.knownby unmet (replicate ROWS 1) 1 b.asany b.intofirst b.into b.processes

-- the due rows of a plan index's plan in the combination with number c
unfoldable pub due_of : PlanIndex → ℕ → List ℕ
due_of b c = due_by b.processes b.conditionrow b.rows b.from (unmet_in b c) b.remote b.decider (active_by b (unmet_in b c))

-- the rows of a combination in which no row is placed: which processes are active, and which `when`s are not met
abbrev pub with_active : PlanIndex → ℕ → Rows → Rows
with_active b c s = with_run (active_by b (unmet_in b c)) (with_unmet (unmet_in b c) (with_comes (replicate ROWS 0) s))

-- a row is not met as often as it is due
unfoldable pub differs_at : List ℕ → List ℕ → ℕ → Bool
differs_at count due r = not (eqb (get_or count r 0) (get_or due r 0))

unfoldable pub miscounted_by : List ℕ → List ℕ → ℕ → Bool
miscounted_by count due rows = any (differs_at count due) (below rows)
