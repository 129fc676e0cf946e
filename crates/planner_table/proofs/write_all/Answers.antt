-- `planner_table::write_all` meets its contract: the entries and frames listed are the model's, and each is written
-- only where all lent words suffice.
use mathlib.Core.Path.{◌≡◌, refl, sym, ◌∙◌}
use Prim.Native.Nat.{ℕ, ◌≤◌}
use native.Mathlib.Omega.{arith}
use lib.ListN.{length-replicate}
use Rattle.model.specs.Plan.{Lines}
use Rattle.model.specs.Refusals.{nothing, plan_refusal}
use Rattle.plan_index.specs.declared.PlanIndex.{PlanIndex}
use Rattle.plan_index.specs.Index.{laid}
use Rattle.plan_layout.specs.Indexed.{Indexed}
use Rattle.plan_layout.proofs.Bounds.{bounded}
use Rattle.planner_table.specs.Planner.{Entered, SomePlans}
use Rattle.planner_combinations.specs.declared.Totals.{Totals}
use Rattle.table_entries.specs.Logs.{Logs}
use Rattle.refusals.specs.declared.Refusal.TheVariants as refusal
use mathlib.Core.List.{List}
use Rattle.planner_table.proofs.Answering.{answer_ten, answer_eleven, answer_made, refused_answers, made_answers}
use Rattle.planner_table.proofs.Entering.{logs}
use Rattle.planner_table.proofs.Framing.{laid_of, rows_of, framed, words_front, frames_front}
use Rattle.planner_table.proofs.CountsOfModel.{counts_front}
use Rattle.planner_table.proofs.write_all.Goals as goal

-- the entries listed are those of the table of the plan that the plan index is of
listed : {b : PlanIndex} {t : Totals} {comes place since list ends : List ℕ} {count : ℕ} → (i : SomePlans b t comes place since) →
    ((p : Lines) → plan_refusal p ≡ nothing → Indexed p b → Logs p comes place since b.span → Entered p list ends count) → Entered i.plan list ends count
listed i f = f i.plan i.passes i.indexed (logs i.plan _ i.indexed _ _ _ _ i.all)

-- there are few of them
few : {p : Lines} {list ends : List ℕ} {count : ℕ} → Entered p list ends count → count ≤ 12672
few e = omega (arith, e.last, e.laid.inside)

pub rows_of-rows-requires : goal.rows_of-rows-requires
rows_of-rows-requires c = bounded c.requires.plan _ c.requires.indexed

pub list_entries-count-requires : goal.list_entries-count-requires
list_entries-count-requires c =
    let i = c.requires in (
      record { plan = i.plan; passes = i.passes; indexed = i.indexed; logged = logs i.plan _ i.indexed _ _ _ _ i.all },
      length-replicate {A = ℕ} 12672 1,
      length-replicate {A = ℕ} 199 0,
    )

pub overflow_mul-count : goal.overflow_mul-count
overflow_mul-count c =
    let e = listed c.requires c.list_entries-count.ensures in
    omega (arith, few e)

pub returns-then-table-count : goal.returns-then-table-count
returns-then-table-count c p fine o a =
    let e = c.list_entries-count.ensures p fine o (logs p _ o _ _ _ _ a) in
    refused_answers p c.args.table.now c.args.frames.now c.args.passed.now refusal.LentRoom (answer_ten p _ _ fine (omega (arith, e.counted, c.if-table-count.true))) refl refl refl

pub collect-used-requires : goal.collect-used-requires
collect-used-requires c =
    let b : PlanIndex = laid c.args.index.now in
    let i = c.requires in
    let e = listed c.requires c.list_entries-count.ensures in
    (bounded i.plan b i.indexed, length-replicate {A = ℕ} 12672 1, rows_of b _ _ _ i.plan i.indexed e)

pub write_both-requires : goal.write_both-requires
write_both-requires c =
    let b : PlanIndex = laid c.args.index.now in
    let i = c.requires in
    let e = listed c.requires c.list_entries-count.ensures in
    let l = laid_of b _ _ _ i.plan i.indexed e c.rows_of-rows.ensures.0 in
    let g = c.collect-used.ensures in
    let f = framed b _ _ _ _ _ g.0 g.1 g.2 i.plan i.passes i.indexed e in
    record { fact_1 = (omega (arith, c.rows_of-rows.ensures.0, (bounded i.plan b i.indexed).few_rows), l.0, omega (arith, l.1, c.if-table-count.false)); fact_2 = (f.few, f.long, f.small) }

pub slots_of-requires : goal.slots_of-requires
slots_of-requires c = bounded c.requires.plan _ c.requires.indexed

pub store_counts-requires : goal.store_counts-requires
store_counts-requires c = c.slots_of.ensures.1

pub overflow_mul-result : goal.overflow_mul-result
overflow_mul-result c =
    let e = listed c.requires c.list_entries-count.ensures in
    omega (arith, few e)

pub overflow_mul-result-then-write_both : goal.overflow_mul-result-then-write_both
overflow_mul-result-then-write_both c =
    let b : PlanIndex = laid c.args.index.now in
    let i = c.requires in
    let e = listed c.requires c.list_entries-count.ensures in
    let g = c.collect-used.ensures in
    omega (arith, (framed b _ _ _ _ _ g.0 g.1 g.2 i.plan i.passes i.indexed e).few)

pub returns-then-write_both : goal.returns-then-write_both
returns-then-write_both c p fine o a =
    let b : PlanIndex = laid c.args.index.now in
    let e = c.list_entries-count.ensures p fine o (logs p _ o _ _ _ _ a) in
    let g = c.collect-used.ensures in
    let f = framed b _ _ _ _ _ g.0 g.1 g.2 p fine o e in
    let w = c.write_both.ensures.written c.if-write_both.true in
    made_answers p c.args.table.now c.args.frames.now c.args.passed.now
    (answer_made p _ _ fine (omega (arith, e.counted, c.if-table-count.false)) (omega (arith, f.counted, w.0)))
    (sym e.counted) (sym f.counted) a.delay
    (words_front b _ _ _ p o e c.args.table.now c.rows_of-rows.ensures.0 w.1) (frames_front p _ _ f c.args.frames.now w.2)
    (counts_front p _ _ _ _ _ a _ (c.slots_of.ensures.0 ∙ o.slots_count) c.args.passed.now c.store_counts.ensures)

pub returns : goal.returns
returns c p fine o a =
    let b : PlanIndex = laid c.args.index.now in
    let e = c.list_entries-count.ensures p fine o (logs p _ o _ _ _ _ a) in
    let g = c.collect-used.ensures in
    let f = framed b _ _ _ _ _ g.0 g.1 g.2 p fine o e in
    let w = c.write_both.ensures.kept c.if-write_both.false in
    refused_answers p c.args.table.now c.args.frames.now c.args.passed.now refusal.FrameRoom
    (answer_eleven p _ _ fine (omega (arith, e.counted, c.if-table-count.false)) (omega (arith, f.counted, w.0))) w.1 w.2 refl
