-- `checker_rows::due_rows` meets its contract, by what the functions that it calls ensure.
use mathlib.Core.Path.{ap, ◌∙◌}
use Rattle.plan_index.specs.Index.{laid}
use Rattle.log_rows.specs.Rows.{Rows, rows_of}
use Rattle.checker_rows.proofs.DueMade.{active_made, due_made}
use Rattle.checker_rows.proofs.due.due_rows.Goals as goal

pub find_unmet-requires : goal.find_unmet-requires
find_unmet-requires c =
    (c.requires.0, ap (λ (r : Rows). r.unmet) c.put_all_comes.ensures ∙ c.requires.2)

pub returns : goal.returns
returns c =
    let a = c.before.args in
    let e = active_made (laid a.index.now) a.c (rows_of a.rows.now) c.put_all_comes.ensures c.find_unmet.ensures c.may_run.ensures c.put_all_comes-2.ensures in
    (due_made (laid a.index.now) a.c (rows_of a.rows.now) e c.rows_due.ensures, e)
