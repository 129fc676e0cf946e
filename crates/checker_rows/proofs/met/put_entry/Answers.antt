-- `checker_rows::put_entry` meets its contract: an entry that is not met leaves the arrays, another is stored in each
-- at its row.
use mathlib.Core.Path.{refl, ap, ◌∙◌}
use Prim.Native.Nat.{ℕ, ◌+◌}
use lib.ListN.{get_or}
use Rattle.model.specs.Table.{Entry}
use Rattle.plan_index.specs.Index.{laid}
use Rattle.log_rows.specs.Rows.{rows_of}
use Rattle.checker_rows.specs.MetRows.{entry_from, one_more, counted, column}
use Rattle.checker_rows.proofs.TableWords.{stored, skipped, entry_stored, entry_skipped}
use Rattle.checker_rows.proofs.met.put_entry.Goals as goal

pub returns-then-table-at : goal.returns-then-table-at
returns-then-table-at c =
    let a = c.args in
    let e : Entry = entry_from a.table.now a.at in
    let q = c.if-table-at.true in (
      skipped counted a.c e a.count.now q,
      skipped column a.c e a.known.now q,
      entry_skipped (laid a.index.now).span a.c e (rows_of a.rows.now) q,
    )

pub returns : goal.returns
returns c =
    let a = c.args in
    let e : Entry = entry_from a.table.now a.at in
    let q = c.if-table-at.false in
    let r = c.wide-row.ensures in
    let x = ap (λ (y : ℕ). e.tick + y + 1) (c.span_of.ensures.0 ∙ ap (λ (i : ℕ). get_or (laid a.index.now).span i 0) r) in (
      stored counted a.c e a.count.now q r (c.count_up.ensures ∙ ap (λ (i : ℕ). one_more (get_or a.count.now i 0)) r),
      stored column a.c e a.known.now q r refl,
      entry_stored (laid a.index.now).span a.c e (rows_of a.rows.now) q r x refl c.put_comes.ensures c.put_place.ensures,
    )
