-- `log_queries::last_end` meets its contract: the greatest so far and what is left give the whole.
use mathlib.Core.Bool.{true}
use lib.ListN.{get_or}
use Rattle.lists.proofs.Greatest.{Most}
use Rattle.log_rows.specs.Rows.{rows_of}
use Rattle.log_queries.proofs.row_ends.last_end.Given as goal

abbrev pub invariant-loop-i : goal.invariant-loop-i
invariant-loop-i l =
    Most (λ i. get_or (rows_of l.rows).comes i 0) (λ k. true) l.processes l.i l.most
