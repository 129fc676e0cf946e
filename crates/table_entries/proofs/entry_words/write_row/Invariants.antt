-- `table_entries::write_row` meets its contract: before turn i what is left to store gives the whole.
use mathlib.Core.Path.{◌≡◌}
use Prim.Native.Nat.{◌*◌}
use lib.ListN.{length}
use lib.Seq.{sets, slice}
use Rattle.lists.specs.Lists.{each}
use Rattle.table_entries.specs.Words.{five}
use Rattle.table_entries.proofs.entry_words.write_row.Given as goal

abbrev pub invariant-loop-i : goal.invariant-loop-i
invariant-loop-i l =
    (sets l.words (5 * l.i) (each (five l.row) (slice l.i l.b l.list)) ≡ sets l.initial.words (5 * l.a) (each (five l.row) (slice l.a l.b l.list))) × (length l.words ≡ length l.initial.words)
