-- `checker_rows::met_rows` meets its contract: before each turn what is left of the table gives the whole arrays.
use mathlib.Core.Path.{◌≡◌}
use Prim.Native.Nat.{◌*◌, ◌/◌, ◌≤◌}
use lib.ListN.{length, drop}
use Rattle.model.specs.Table.{entries_of}
use Rattle.plan_index.specs.Index.{laid}
use Rattle.log_rows.specs.Rows.{rows_of}
use Rattle.checker_rows.specs.MetRows.{counted, ends, placed, column, after_all, by_row, Rowed}
use Rattle.checker_rows.proofs.TableWords.{OnlyMet}
use Rattle.checker_rows.proofs.met.met_rows.Given as goal

abbrev pub invariant-loop-i : goal.invariant-loop-i
invariant-loop-i l =
    (l.i ≤ length l.table / 5) × Rowed (drop (l.i * 5) l.table)
    × (after_all counted l.c (entries_of (drop (l.i * 5) l.table)) l.count ≡ by_row counted l.c l.table)
    × (after_all column l.c (entries_of (drop (l.i * 5) l.table)) l.known ≡ by_row column l.c l.table)
    × (after_all (ends (laid l.index).span) l.c (entries_of (drop (l.i * 5) l.table)) (rows_of l.rows).comes ≡ by_row (ends (laid l.index).span) l.c l.table)
    × (after_all placed l.c (entries_of (drop (l.i * 5) l.table)) (rows_of l.rows).place ≡ by_row placed l.c l.table)
    × OnlyMet (rows_of l.initial.rows) (rows_of l.rows)
