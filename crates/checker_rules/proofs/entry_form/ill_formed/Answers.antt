-- `checker_rules::ill_formed` meets its contract: each test that holds settles the answer.
use mathlib.Core.Path.{sym, ap, ◌∙◌}
use native.Mathlib.Omega.{arith}
use borrow.Author.Tests.{le-leb, lt-leb, lt-ltb, le-ltb, eq-eqb, ne_eqb}
use Rattle.model.specs.Table.{Entry}
use Rattle.plan_index.specs.Index.{laid}
use Rattle.checker_rows.specs.MetRows.{entry_from}
use Rattle.checker_rules.specs.EntryForm.{ill_formed_by, is_local_row}
use Rattle.checker_rules.proofs.entry_form.ill_formed.Goals as goal

pub returns-then-rows_of-row : goal.returns-then-rows_of-row
unfolding ill_formed_by
returns-then-rows_of-row c =
    let b = laid c.args.index.now in
    let e : Entry = entry_from c.args.table.now c.args.at in
    simp (le-leb b.rows e.row (omega (arith, c.wide-row.ensures, c.rows_of.ensures.0, c.if-rows_of-row.true)))

pub returns-then-is_local : goal.returns-then-is_local
unfolding ill_formed_by
returns-then-is_local c =
    let b = laid c.args.index.now in
    let e : Entry = entry_from c.args.table.now c.args.at in
    simp (
      lt-leb b.rows e.row (omega (arith, c.wide-row.ensures, c.rows_of.ensures.0, c.if-rows_of-row.false)),
      ap (is_local_row b) (sym c.wide-row.ensures) ∙ sym c.is_local.ensures ∙ c.if-is_local.true,
    )

pub returns-then-combinations-known : goal.returns-then-combinations-known
unfolding ill_formed_by
returns-then-combinations-known c =
    let b = laid c.args.index.now in
    let e : Entry = entry_from c.args.table.now c.args.at in
    simp (
      lt-leb b.rows e.row (omega (arith, c.wide-row.ensures, c.rows_of.ensures.0, c.if-rows_of-row.false)),
      ap (is_local_row b) (sym c.wide-row.ensures) ∙ sym c.is_local.ensures ∙ c.if-is_local.false,
      le-leb c.args.combinations e.known (omega (arith, c.if-combinations-known.true)),
    )

pub returns-then-values-known : goal.returns-then-values-known
unfolding ill_formed_by
returns-then-values-known c =
    let b = laid c.args.index.now in
    let e : Entry = entry_from c.args.table.now c.args.at in
    simp (
      lt-leb b.rows e.row (omega (arith, c.wide-row.ensures, c.rows_of.ensures.0, c.if-rows_of-row.false)),
      ap (is_local_row b) (sym c.wide-row.ensures) ∙ sym c.is_local.ensures ∙ c.if-is_local.false,
      lt-leb c.args.combinations e.known (omega (arith, c.if-combinations-known.false)),
      ne_eqb _ _ c.if-values-known.true,
    )

pub returns-then-table-at-gt-LASTTICK : goal.returns-then-table-at-gt-LASTTICK
unfolding ill_formed_by
returns-then-table-at-gt-LASTTICK c =
    let b = laid c.args.index.now in
    let e : Entry = entry_from c.args.table.now c.args.at in
    simp (
      lt-leb b.rows e.row (omega (arith, c.wide-row.ensures, c.rows_of.ensures.0, c.if-rows_of-row.false)),
      ap (is_local_row b) (sym c.wide-row.ensures) ∙ sym c.is_local.ensures ∙ c.if-is_local.false,
      lt-leb c.args.combinations e.known (omega (arith, c.if-combinations-known.false)),
      eq-eqb _ _ c.if-values-known.false,
      lt-ltb 999999999 e.tick (omega (arith, c.if-table-at-gt-LASTTICK.true)),
    )

pub returns-then-place-gt-LASTPLACE : goal.returns-then-place-gt-LASTPLACE
unfolding ill_formed_by
returns-then-place-gt-LASTPLACE c =
    let b = laid c.args.index.now in
    let e : Entry = entry_from c.args.table.now c.args.at in
    simp (
      lt-leb b.rows e.row (omega (arith, c.wide-row.ensures, c.rows_of.ensures.0, c.if-rows_of-row.false)),
      ap (is_local_row b) (sym c.wide-row.ensures) ∙ sym c.is_local.ensures ∙ c.if-is_local.false,
      lt-leb c.args.combinations e.known (omega (arith, c.if-combinations-known.false)),
      eq-eqb _ _ c.if-values-known.false,
      le-ltb 999999999 e.tick (omega (arith, c.if-table-at-gt-LASTTICK.false)),
      lt-ltb 63 e.place (omega (arith, c.if-place-gt-LASTPLACE.true)),
    )

pub returns-then-row-processes_of : goal.returns-then-row-processes_of
unfolding ill_formed_by
returns-then-row-processes_of c =
    let b = laid c.args.index.now in
    let e : Entry = entry_from c.args.table.now c.args.at in
    simp (
      lt-leb b.rows e.row (omega (arith, c.wide-row.ensures, c.rows_of.ensures.0, c.if-rows_of-row.false)),
      ap (is_local_row b) (sym c.wide-row.ensures) ∙ sym c.is_local.ensures ∙ c.if-is_local.false,
      lt-leb c.args.combinations e.known (omega (arith, c.if-combinations-known.false)),
      eq-eqb _ _ c.if-values-known.false,
      le-ltb 999999999 e.tick (omega (arith, c.if-table-at-gt-LASTTICK.false)),
      le-ltb 63 e.place (omega (arith, c.if-place-gt-LASTPLACE.false)),
      lt-ltb e.row b.processes (omega (arith, c.wide-row.ensures, c.processes_of.ensures.0, c.if-row-processes_of.true)),
    )

pub returns : goal.returns
unfolding ill_formed_by
returns c =
    let b = laid c.args.index.now in
    let e : Entry = entry_from c.args.table.now c.args.at in
    simp (
      lt-leb b.rows e.row (omega (arith, c.wide-row.ensures, c.rows_of.ensures.0, c.if-rows_of-row.false)),
      ap (is_local_row b) (sym c.wide-row.ensures) ∙ sym c.is_local.ensures ∙ c.if-is_local.false,
      lt-leb c.args.combinations e.known (omega (arith, c.if-combinations-known.false)),
      eq-eqb _ _ c.if-values-known.false,
      le-ltb 999999999 e.tick (omega (arith, c.if-table-at-gt-LASTTICK.false)),
      le-ltb 63 e.place (omega (arith, c.if-place-gt-LASTPLACE.false)),
      le-ltb e.row b.processes (omega (arith, c.wide-row.ensures, c.processes_of.ensures.0, c.if-row-processes_of.false)),
    )
