-- `table_entries::write` meets its contract: before turn r what is left to store gives the whole.
use mathlib.Core.Path.{◌≡◌}
use Prim.Native.Nat.{◌*◌, ◌-◌, ◌≤◌}
use lib.ListN.{length, get_or}
use lib.Seq.{sets}
use Rattle.lists.specs.Lists.{each, upfrom}
use Rattle.table_entries.specs.Words.{five, row_part, table}
use Rattle.table_entries.proofs.entry_words.write.Given as goal

abbrev pub invariant-loop-r : goal.invariant-loop-r
invariant-loop-r l =
    (l.r ≤ l.rows)
    × (sets l.words (5 * get_or l.ends l.r 0) (each (λ q. each (five q) (row_part l.list l.ends q)) (upfrom l.r (l.rows - l.r))) ≡ sets l.initial.words 0 (table l.list l.ends l.rows))
    × (length l.words ≡ length l.initial.words)
