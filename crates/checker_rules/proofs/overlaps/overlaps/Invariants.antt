-- `checker_rules::overlaps` meets its contract: the processes from j on give the whole answer.
use mathlib.Core.Path.{◌≡◌}
use Prim.Native.Nat.{◌-◌}
use Rattle.plan_index.specs.Index.{laid}
use Rattle.log_rows.specs.Rows.{rows_of}
use Rattle.checker_rows.specs.MetArrays.{some}
use Rattle.checker_rules.specs.Rules.{run_at_once}
use Rattle.checker_rules.proofs.overlaps.overlaps.Given as goal

abbrev pub invariant-loop-j : goal.invariant-loop-j
invariant-loop-j l = some (run_at_once (laid l.index) (rows_of l.rows) l.i) 0 l.i ≡ some (run_at_once (laid l.index) (rows_of l.rows) l.i) l.j l.i

abbrev pub decreases-loop-j : goal.decreases-loop-j
decreases-loop-j l = l.i - l.j
