-- `checker_rows::miscounts` meets its contract: what is left gives the whole answer.
use Prim.Native.Nat.{◌≤◌}
use Rattle.lists.proofs.Loops.{Left}
use Rattle.checker_rows.specs.Due.{differs_at}
use Rattle.checker_rows.proofs.met.miscounts.Given as goal

abbrev pub invariant-loop-r : goal.invariant-loop-r
invariant-loop-r l = (l.r ≤ l.rows) × Left (differs_at l.count l.due) l.rows l.r
