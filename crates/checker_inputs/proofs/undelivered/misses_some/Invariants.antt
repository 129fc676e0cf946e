-- `checker_inputs::misses_some` meets its contract: the edges from place j on give the whole answer.
use mathlib.Core.Path.{◌≡◌}
use Rattle.lists.specs.Lists.{any}
use Rattle.plan_index.specs.Index.{laid}
use Rattle.log_rows.specs.Rows.{rows_of}
use Rattle.log_queries.specs.Queries.{edges_at}
use Rattle.checker_inputs.specs.Inputs.{edge_misses}
use Rattle.checker_inputs.proofs.undelivered.misses_some.Given as goal

abbrev pub invariant-loop-j : goal.invariant-loop-j
invariant-loop-j l = any (edge_misses (laid l.index) (rows_of l.rows) l.u) (edges_at (laid l.index) l.a l.b) ≡ any (edge_misses (laid l.index) (rows_of l.rows) l.u) (edges_at (laid l.index) l.j l.b)
