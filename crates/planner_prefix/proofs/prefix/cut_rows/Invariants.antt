-- `planner_prefix::cut_rows` meets its contract: before turn r the first r rows are cut.
use mathlib.Core.Path.{◌≡◌}
use Prim.Native.Nat.{ℕ, ◌≤◌, ◌<◌}
use lib.ListN.{length, get_or}
use Rattle.plan_index.specs.Index.{laid}
use Rattle.log_rows.specs.Rows.{rows_of, with_comes}
use Rattle.table_entries.specs.Logs.{block}
use Rattle.planner_prefix.specs.Prefix.{cut_at}
use Rattle.planner_prefix.proofs.prefix.cut_rows.Given as goal

abbrev pub invariant-loop-r : goal.invariant-loop-r
invariant-loop-r l =
    (l.r ≤ 198) × (rows_of l.rows ≡ with_comes (rows_of l.rows).comes (rows_of l.initial.rows)) × (length (rows_of l.rows).comes ≡ 198)
    × ((k : ℕ) → k < l.r → get_or (rows_of l.rows).comes k 0 ≡ cut_at (block l.all l.d) (laid l.index).span l.u k)
