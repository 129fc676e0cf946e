-- `planner_dispatch::pick` meets its contract: what the processes from place j on give is what all of them give.
use mathlib.Core.Path.{◌≡◌}
use Rattle.plan_index.specs.Index.{laid}
use Rattle.log_rows.specs.Rows.{rows_of}
use Rattle.planner_dispatch.specs.Dispatching.{picked}
use Rattle.planner_dispatch.proofs.pick.Given as goal

abbrev pub invariant-loop-j : goal.invariant-loop-j
invariant-loop-j l =
    picked (laid l.index) (rows_of l.rows) l.u l.a l.b ≡ picked (laid l.index) (rows_of l.rows) l.u l.j l.b
