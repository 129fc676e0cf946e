-- `checker_table::some_ill_formed` meets its contract: before each turn what is left of the table gives the whole answer.
use Prim.Native.Nat.{◌*◌, ◌/◌, ◌≤◌}
use lib.ListN.{length}
use Rattle.plan_index.specs.Index.{laid}
use Rattle.checker_rules.specs.EntryForm.{is_ill_formed}
use Rattle.checker_rules.proofs.EntryCases.{Rest}
use Rattle.checker_table.proofs.table.some_ill_formed.Given as goal

abbrev pub invariant-loop-i : goal.invariant-loop-i
invariant-loop-i l = (l.i ≤ length l.table / 5) × Rest (is_ill_formed (laid l.index) l.combinations) l.table (l.i * 5)
