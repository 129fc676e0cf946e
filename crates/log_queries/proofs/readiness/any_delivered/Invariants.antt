-- `log_queries::any_delivered` meets its contract: whether one has delivered before place j, and the edges from j on,
-- give the whole answer.
use mathlib.Core.Path.{◌≡◌}
use Rattle.plan_index.specs.Index.{laid}
use Rattle.log_rows.specs.Rows.{rows_of}
use Rattle.log_queries.specs.Queries.{edges_at, has_delivered, never_delivers, settles}
use Rattle.log_queries.proofs.ArrayParts.{settled}
use Rattle.log_queries.proofs.readiness.any_delivered.Given as goal

abbrev pub invariant-loop-j : goal.invariant-loop-j
invariant-loop-j l =
    settles (laid l.index) (rows_of l.rows) l.u (edges_at (laid l.index) l.a l.b)
    ≡ settled (has_delivered (laid l.index) (rows_of l.rows) l.u) (never_delivers (laid l.index) (rows_of l.rows) l.u) l.some (edges_at (laid l.index) l.j l.b)
