-- `checker::check_table` meets its contract: a refusal of the plan, or else the answer to the table's words.
use mathlib.Core.Path.{sym, ◌∙◌}
use Rattle.std.proofs.lemmas.Result.{err_from_is_err_and}
use Rattle.plan.specs.Memory.{lines}
use Rattle.checker_table.proofs.FirstAnswers.{answer_plan, answer_words}
use Rattle.checker.proofs.check_table.Goals as goal

pub returns-in_err-refuse : goal.returns-in_err-refuse
returns-in_err-refuse c =
    let a = c.args in
    let p = err_from_is_err_and c.from_residual.result c.from_residual.ensures.1 in
    rw (p.1, p.2) (answer_plan (lines a.p) a.table.now a.delay _ (sym c.in_err-refuse.ensures))

pub check_words-requires : goal.check_words-requires
check_words-requires c = sym c.in_ok-refuse.ensures

pub returns : goal.returns
returns c =
    let a = c.args in
    c.check_words.ensures ∙ answer_words (lines a.p) a.table.now a.delay (sym c.in_ok-refuse.ensures)
