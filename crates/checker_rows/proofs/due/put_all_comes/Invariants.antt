-- `checker_rows::put_all_comes` meets its contract: before turn r the first r rows are over at the clock.
use mathlib.Core.Path.{◌≡◌}
use Prim.Native.Nat.{◌≤◌}
use lib.ListN.{length}
use Rattle.log_rows.specs.Rows.{rows_of}
use Rattle.checker_rows.proofs.DueMade.{over_first}
use Rattle.checker_rows.proofs.due.put_all_comes.Given as goal

abbrev pub invariant-loop-r : goal.invariant-loop-r
invariant-loop-r l = (l.r ≤ 198) × (length l.rows ≡ length l.initial.rows) × (rows_of l.rows ≡ over_first l.clock l.r (rows_of l.initial.rows))
