-- `planner::plan_table` meets its contract: a refusal of the plan, or else the answer of the accepted plan.
use mathlib.Core.Path.{refl, sym}
use Rattle.std.proofs.lemmas.Result.{err_from_is_err_and}
use Rattle.plan.specs.Memory.{lines}
use Rattle.planner_table.proofs.Answering.{answer_refused, refused_answers}
use Rattle.planner.proofs.plan_table.Goals as goal

pub plan_accepted-requires : goal.plan_accepted-requires
plan_accepted-requires c = sym c.in_ok-refuse.ensures

pub returns-in_err-refuse : goal.returns-in_err-refuse
returns-in_err-refuse c =
    let p = err_from_is_err_and c.from_residual.result c.from_residual.ensures.1 in
    let a =
    refused_answers (lines c.args.p) c.args.table.now c.args.frames.now c.args.passed.now _
    (answer_refused (lines c.args.p) _ _ _ (sym c.in_err-refuse.ensures)) refl refl refl in
    record { answer = rw (p.1, p.2) a.answer; table = a.words; frames = a.frame_words; counts = a.counts }

pub returns : goal.returns
returns c =
    let a = c.plan_accepted.ensures in
    record { answer = a.answer; table = a.words; frames = a.frame_words; counts = a.counts }
