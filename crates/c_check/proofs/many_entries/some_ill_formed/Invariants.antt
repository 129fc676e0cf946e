-- `c_check::some_ill_formed` meets its contract: before each turn what is left of the table gives the whole answer.
use Prim.Native.Nat.{◌*◌, ◌/◌, ◌≤◌}
use Rattle.model.specs.Firmware.{words_of}
use Rattle.plan_index.specs.Index.{laid}
use Rattle.checker_rules.specs.EntryForm.{is_ill_formed}
use Rattle.checker_rules.proofs.EntryCases.{Rest}
use Rattle.c_check.proofs.many_entries.some_ill_formed.Given as goal

abbrev pub invariant-loop-i : goal.invariant-loop-i
invariant-loop-i l = (l.i ≤ l.n / 5) × Rest (is_ill_formed (laid l.index) l.combinations) (words_of l.bytes) (l.i * 5)
