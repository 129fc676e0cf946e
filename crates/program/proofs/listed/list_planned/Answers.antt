-- `program::list_planned` meets its contract, by those of the planner and of `list_words`.
use mathlib.Core.Path.{sym}
use lib.ListN.{length}
use lib.Seq.{length-take-le}
use Rattle.std.proofs.lemmas.Result.{err_from_is_err_and}
use Rattle.model.specs.Table.{plan_answer}
use Rattle.plan.specs.Memory.{lines}
use Rattle.planner_table.proofs.Given.{Stands, stands}
use Rattle.program.proofs.ListingOfPlan.{refused_words, made_words, listed_so}
use Rattle.program.proofs.listed.list_planned.Goals as goal
use Rattle.program.proofs.listed.list_planned.Goals.{In_ok-m}

-- what was made stands in the lent words
stood : (c : In_ok-m) →
    let a = c.args in
    Stands (lines a.p) (plan_answer (lines a.p) (length a.table.now) (length a.frames.now)) c.in_ok-m.m a.table.now a.frames.now a.passed.now c.plan_accepted.new.table c.plan_accepted.new.frames c.plan_accepted.new.passed
stood c =
    let t = c.in_ok-m.ensures in
    stands (lines c.args.p) c.args.table.now c.args.frames.now _ _ _ _ _ t.answer t.words t.frame_words t.counts

pub slice_bounds-list_words-end : goal.slice_bounds-list_words-end
slice_bounds-list_words-end c = (stood (goal.at.slice_bounds-list_words-end c).In_ok-m).within

pub slice_bounds-list_words-end-2 : goal.slice_bounds-list_words-end-2
slice_bounds-list_words-end-2 c = sym (length-take-le _ _ (stood (goal.at.slice_bounds-list_words-end-2 c).In_ok-m).within)

pub slice_bounds-list_words-end-3 : goal.slice_bounds-list_words-end-3
slice_bounds-list_words-end-3 c = (stood (goal.at.slice_bounds-list_words-end-3 c).In_ok-m).frames_within

pub slice_bounds-list_words-end-4 : goal.slice_bounds-list_words-end-4
slice_bounds-list_words-end-4 c = sym (length-take-le _ _ (stood (goal.at.slice_bounds-list_words-end-4 c).In_ok-m).frames_within)

pub returns-in_err-m : goal.returns-in_err-m
returns-in_err-m c =
    let pre = c.requires in
    let p = err_from_is_err_and c.from_residual.result c.from_residual.ensures.1 in
    let z = refused_words _ pre.fact_1 _ _ pre.fact_2 pre.fact_3 _ c.args.out.now c.in_err-m.ensures.answer in
    rw (p.1, p.2) (record { answer = z.0; bytes = z.1 })

pub returns : goal.returns
returns c =
    let w = c.list_words in
    let pre = c.requires in
    let z = listed_so c.args.out.now (made_words _ pre.fact_1 _ _ pre.fact_2 pre.fact_3 _ (stood (goal.at.returns c).In_ok-m)) w.ensures.answer w.ensures.bytes in
    record { answer = z.0; bytes = z.1 }
