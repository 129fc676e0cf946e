-- `log_queries::all_delivered` meets its contract: the edges from place j on give the whole answer.
use mathlib.Core.Path.{◌≡◌}
use Rattle.lists.specs.Lists.{all}
use Rattle.plan_index.specs.Index.{laid}
use Rattle.log_rows.specs.Rows.{rows_of}
use Rattle.log_queries.specs.Queries.{edges_at, has_delivered}
use Rattle.log_queries.proofs.readiness.all_delivered.Given as goal

abbrev pub invariant-loop-j : goal.invariant-loop-j
invariant-loop-j l =
    all (has_delivered (laid l.index) (rows_of l.rows) l.u) (edges_at (laid l.index) l.a l.b) ≡ all (has_delivered (laid l.index) (rows_of l.rows) l.u) (edges_at (laid l.index) l.j l.b)
