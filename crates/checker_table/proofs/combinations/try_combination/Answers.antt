-- `checker_table::try_combination` meets its contract: what is found is put together of the met entries, the due rows
-- and the tests on them.
use mathlib.Core.Path.{sym, ap, subst, ◌∙◌}
use native.Mathlib.Omega.{arith}
use Rattle.plan_index.specs.Index.{laid}
use Rattle.log_rows.specs.Rows.{Rows}
use Rattle.plan_layout.proofs.Bounds.{bounded}
use Rattle.checker_rows.proofs.DueMade.{row_order}
use Rattle.checker_table.specs.FirstRefusal.{Tried}
use Rattle.checker_table.proofs.Combined.{rows_made, found_counted, found_14, found_later}
use Rattle.checker_table.proofs.CombinationOfModel.{table_rowed, tried}
use Rattle.checker_table.proofs.combinations.try_combination.Goals as goal

pub due_rows-due-requires : goal.due_rows-due-requires
due_rows-due-requires c =
    let t = c.requires.fact_1 in
    let b = laid c.args.index.now in
    (bounded t.plan b t.indexed, row_order t.plan b t.indexed, ap (λ (r : Rows). r.unmet) c.empty_rows-rows.ensures)

pub met_rows-m-requires : goal.met_rows-m-requires
met_rows-m-requires c =
    let t = c.requires.fact_1 in
    let b = laid c.args.index.now in
    let e = c.due_rows-due.ensures.1 in record { fact_1 = (t.fives, table_rowed b c.args.table.now t, bounded t.plan b t.indexed); fact_2 = (ap (λ (r : Rows). r.comes) e, ap (λ (r : Rows). r.place) e ∙ ap (λ (r : Rows). r.place) c.empty_rows-rows.ensures) }

pub rows_of-requires : goal.rows_of-requires
rows_of-requires c =
    let t = c.requires.fact_1 in
    bounded t.plan (laid c.args.index.now) t.indexed

pub returns-then-miscounts : goal.returns-then-miscounts
returns-then-miscounts c =
    let a = c.args in
    let b = laid a.index.now in
    (found_14 b a.table.now a.c c.met_rows-m.ensures.0 c.due_rows-due.ensures.0 c.rows_of.ensures.0 (sym c.miscounts.ensures ∙ c.if-miscounts.true), omega arith)

pub first_found-first-requires : goal.first_found-first-requires
first_found-first-requires c =
    let a = c.args in
    let b = laid a.index.now in
    subst (λ (r : Rows). Tried b r) (sym (rows_made b a.table.now a.c c.empty_rows-rows.ensures c.due_rows-due.ensures.1 c.met_rows-m.ensures.1))
    (tried b a.table.now c.requires.fact_1 a.c c.requires.fact_2
    (found_counted b a.table.now a.c c.met_rows-m.ensures.0 c.due_rows-due.ensures.0 c.rows_of.ensures.0 (sym c.miscounts.ensures ∙ c.if-miscounts.false)))

pub processes_of-requires : goal.processes_of-requires
processes_of-requires c =
    let t = c.requires.fact_1 in
    bounded t.plan (laid c.args.index.now) t.indexed

pub returns : goal.returns
returns c =
    let a = c.args in
    let b = laid a.index.now in (
      found_later b a.table.now a.c c.met_rows-m.ensures.0 c.due_rows-due.ensures.0 c.rows_of.ensures.0 (sym c.miscounts.ensures ∙ c.if-miscounts.false)
          (rows_made b a.table.now a.c c.empty_rows-rows.ensures c.due_rows-due.ensures.1 c.met_rows-m.ensures.1) c.processes_of.ensures.0 c.first_found-first.ensures.0 c.last_end-delay.ensures,
      c.first_found-first.ensures.1,
    )
