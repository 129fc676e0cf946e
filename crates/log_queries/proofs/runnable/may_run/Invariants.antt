-- `log_queries::may_run` meets its contract: before turn i the array says of the first i processes whether they may
-- run.
use mathlib.Core.Path.{◌≡◌}
use mathlib.Core.List.{List}
use Prim.Native.Nat.{ℕ, ◌≤◌}
use Rattle.plan_index.specs.declared.PlanIndex.{PlanIndex}
use Rattle.plan_index.specs.Index.{laid}
use Rattle.log_rows.specs.Rows.{Rows, rows_of, with_run}
use Rattle.log_queries.specs.Reading.{may_run_by}
use Rattle.log_queries.proofs.runnable.may_run.Given as goal

-- which of the first n processes may run
abbrev pub runnable : PlanIndex → Rows → ℕ → ℕ → List ℕ
runnable b s u = may_run_by b.from b.knownby s.unmet s.comes u b.asany b.intofirst b.into

abbrev pub invariant-loop-i : goal.invariant-loop-i
invariant-loop-i l =
    (l.i ≤ l.processes) × (rows_of l.rows ≡ with_run (runnable (laid l.index) (rows_of l.initial.rows) l.u l.i) (rows_of l.initial.rows))
