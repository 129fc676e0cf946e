-- `c_plan::put_planned` meets its contract, by those of the planner and of `put_planned_words`.
use mathlib.Core.Path.{sym, ap, ◌∙◌}
use Prim.Native.Nat.{ℕ, ◌≤◌}
use native.Mathlib.Omega.{arith}
use lib.ListN.{length, length-replicate}
use lib.Seq.{length-take-le}
use Rattle.std.proofs.lemmas.Result.{err_from_is_err_and}
use Rattle.limits.specs.Limits.{NODES}
use Rattle.model.specs.Table.{plan_answer}
use Rattle.plan.specs.Memory.{lines}
use Rattle.plan.proofs.TestsOnLines.{slots_length}
use Rattle.planner_table.proofs.Given.{Stands, stands, counts_long}
use Rattle.c_plan.proofs.Putting.{refusal_put, made_put}
use Rattle.c_plan.proofs.table.put_planned.Goals as goal
use Rattle.c_plan.proofs.table.put_planned.Goals.{In_ok-m}

-- what was made stands in the lent words and in the counts
stood : (c : In_ok-m) → let a = c.args in
    Stands (lines a.p) (plan_answer (lines a.p) (length a.words.now) (length a.framewords.now)) c.in_ok-m.m
    a.words.now a.framewords.now c.zeros-passed.result
    c.plan_table.new.table c.plan_table.new.frames c.plan_table.new.passed
stood c =
    let a = c.args in
    let t = c.in_ok-m.ensures in
    stands (lines a.p) a.words.now a.framewords.now _ _ _ _ _ t.answer t.table t.frames t.counts

-- a count for each slot stands there
counted : (c : In_ok-m) → (c.args.p.slots ≤ length c.plan_table.new.passed) × (c.args.p.slots ≤ NODES)
counted c =
    let s = stood c in
    let n = slots_length c.args.p in
    let long = counts_long s (ap length c.zeros-passed.ensures ∙ length-replicate {A = ℕ} NODES 0) in
    (omega (arith, n, s.counts_few, long), omega (arith, n, s.counts_few))

pub slice_bounds-passed-end : goal.slice_bounds-passed-end
slice_bounds-passed-end c = (counted (goal.at.slice_bounds-passed-end c).In_ok-m).0

pub slice_bounds-put_planned_words-end : goal.slice_bounds-put_planned_words-end
slice_bounds-put_planned_words-end c = sym (length-take-le _ _ (counted (goal.at.slice_bounds-put_planned_words-end c).In_ok-m).0)

pub put_planned_words-requires : goal.put_planned_words-requires
put_planned_words-requires c =
    let start = c in
    let s = stood (goal.at.put_planned_words-requires c).In_ok-m in
    let n = counted (goal.at.put_planned_words-requires c).In_ok-m in record { fact_1 = (omega (arith, s.lent, start.requires.fact_1), s.within, omega (arith, s.lent, start.requires.fact_1)); fact_2 = (omega (arith, s.frames_lent, start.requires.fact_2), s.frames_within, omega (arith, s.frames_lent, start.requires.fact_2)); fact_3 = omega (arith, length-take-le start.args.p.slots c.plan_table.new.passed n.0, n.1) }

pub overflow_mul-result : goal.overflow_mul-result
overflow_mul-result c =
    let start = c in
    let s = stood (goal.at.overflow_mul-result c).In_ok-m in
    record { fits = omega (arith, s.lent, start.requires.fact_1, s.frames_lent, start.requires.fact_2) }

pub returns-in_err-m : goal.returns-in_err-m
returns-in_err-m c =
    let a = c.args in
    let p = err_from_is_err_and c.from_residual.result c.from_residual.ensures.1 in
    let z = refusal_put _ _ a.table.now a.frames.now a.totals.now c.in_err-m.ensures.answer in
    record { answer = rw (p.1, p.2) z.0; bytes = z.1 }

pub returns : goal.returns
returns c =
    let a = c.args in
    let z = made_put _ _ _ _ _ _ _ _ _ (stood (goal.at.returns c).In_ok-m) a.p.slots (sym (slots_length a.p)) a.table.now a.frames.now a.totals.now _ _ _ c.put_planned_words.ensures in
    record { answer = z.0; bytes = z.1 }
