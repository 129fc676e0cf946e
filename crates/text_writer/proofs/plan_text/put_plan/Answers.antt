-- `text_writer::put_plan` meets its contract: the count goes on over each part, and the parts together are the text.
-- Assumes nothing.
use Rattle.std.proofs.Common.{◌≡◌, ◌≤◌, ◌++◌, List, ℕ, length, take, arith, rules, refl, ap, sym, ◌∙◌}
use Rattle.lists.specs.Lists.{each}
use Rattle.model.specs.Text.{slot_line, process_line, condition_line, edge_line, plan_line, print}
use Rattle.model.specs.Refusals.{nothing, plan_refusal}
use Rattle.plan.specs.declared.Plan.{Plan}
use Rattle.plan.specs.Memory.{slot_of, process_of, edge_of, no_slot, no_process, no_edge, lines}
use Rattle.text_lines.specs.declared.Writer.{Writer}
use Rattle.text_lines.specs.Line.{put_on}
use Rattle.text_lines.specs.Put.{Counts, Put}
use Rattle.text_lines.proofs.Puts.{put_then, counts_first, counts_rest}
use Rattle.text_writer.proofs.TextRuns.{counted_lines}
use Rattle.text_writer.proofs.WholeText.{print_parts, counts_plan, few_lines}
use Rattle.text_writer.proofs.plan_text.put_plan.Goals as goal

-- a part put, as the line writers before and after it show it
part : {w r : Writer} {u : List ℕ} → r ≡ put_on w u → Put w.out.now r.out.now w.at r.at u
part e = rw e (record { count = refl; holds = refl })

-- the count goes on over each part
module _ (p : Plan) (passes : plan_refusal (lines p) ≡ nothing) where
  counts₁ : (w₀ : Writer) {w₁ : Writer} → w₀.at ≡ 0 → w₁ ≡ put_on w₀ (plan_line (lines p).plan)
      → Counts w₁.at (each slot_line (lines p).slots ++ (each process_line (lines p).processes ++ (each condition_line (lines p).conditions ++ each edge_line (lines p).edges)))
  counts₁ w₀ at₀ e₁ = counts_rest (part e₁) _ (rw at₀ (counts_plan p passes))

  counts₂ : (w₀ : Writer) {w₁ w₂ : Writer} → w₀.at ≡ 0 → w₁ ≡ put_on w₀ (plan_line (lines p).plan) → w₂ ≡ put_on w₁ (each slot_line (lines p).slots)
      → Counts w₂.at (each process_line (lines p).processes ++ (each condition_line (lines p).conditions ++ each edge_line (lines p).edges))
  counts₂ w₀ at₀ e₁ e₂ = counts_rest (part e₂) _ (counts₁ w₀ at₀ e₁)

  counts₃ : (w₀ : Writer) {w₁ w₂ w₃ : Writer} → w₀.at ≡ 0 → w₁ ≡ put_on w₀ (plan_line (lines p).plan) → w₂ ≡ put_on w₁ (each slot_line (lines p).slots) → w₃ ≡ put_on w₂ (each process_line (lines p).processes)
      → Counts w₃.at (each condition_line (lines p).conditions ++ each edge_line (lines p).edges)
  counts₃ w₀ at₀ e₁ e₂ e₃ = counts_rest (part e₃) _ (counts₂ w₀ at₀ e₁ e₂)

-- a part put leaves the borrow its name
name : (w : Writer) (u : List ℕ) {r : Writer} → r ≡ put_on w u → w.out.ghost_name ≡ r.out.ghost_name
name w u e = sym (ap (λ w. w.out.ghost_name) e)

-- the parts together are the text
printed : (p : Plan) (w₀ : Writer) {w₁ w₂ w₃ w₄ w₅ : Writer} (l zs : List ℕ) (r : ℕ) → w₀.out.now ≡ l → w₀.at ≡ 0 → w₁ ≡ put_on w₀ (plan_line (lines p).plan) → w₂ ≡ put_on w₁ (each slot_line (lines p).slots)
    → w₃ ≡ put_on w₂ (each process_line (lines p).processes) → w₄ ≡ put_on w₃ (each condition_line (lines p).conditions) → w₅ ≡ put_on w₄ (each edge_line (lines p).edges) → r ≡ w₅.at → zs ≡ w₅.out.now
    → Put l zs 0 r (print (lines p))
printed p w₀ l zs r same at₀ e₁ e₂ e₃ e₄ e₅ e z =
    rw print_parts (rw (← same, ← at₀) (put_then (part e₁) (put_then (part e₂) (put_then (part e₃) (put_then (part e₄) (rw (e, z) (part e₅)))))))

pub plan_line-requires : goal.plan_line-requires
plan_line-requires c = rw c.start-w.ensures.1 (counts_first _ _ (counts_plan c.args.p c.requires))

-- the lines that a count names are those at the front of the array
slots_text : (p : Plan) → length p.slot ≡ 8 → p.slots ≤ 8 → each (λ x. slot_line (slot_of x)) (take p.slots p.slot) ≡ each slot_line (lines p).slots
unfolding lines
slots_text p e h = counted_lines slot_line slot_of no_slot p.slot p.slots (omega (arith, e, h))

processes_text : (p : Plan) → length p.process ≡ 64 → p.processes ≤ 64 → each (λ x. process_line (process_of x)) (take p.processes p.process) ≡ each process_line (lines p).processes
unfolding lines
processes_text p e h = counted_lines process_line process_of no_process p.process p.processes (omega (arith, e, h))

conditions_text : (p : Plan) → length p.condition ≡ 6 → p.conditions ≤ 6 → each condition_line (take p.conditions p.condition) ≡ each condition_line (lines p).conditions
unfolding lines
conditions_text p e h = counted_lines condition_line (λ i. i) 0 p.condition p.conditions (omega (arith, e, h))

edges_text : (p : Plan) → length p.edge ≡ 128 → p.edges ≤ 128 → each (λ x. edge_line (edge_of x)) (take p.edges p.edge) ≡ each edge_line (lines p).edges
unfolding lines
edges_text p e h = counted_lines edge_line edge_of no_edge p.edge p.edges (omega (arith, e, h))

-- lines put, as the lines of the plan
as_lines : (w : Writer) {r : Writer} {u v : List ℕ} → r ≡ put_on w u → u ≡ v → r ≡ put_on w v
as_lines w e q = e ∙ ap (put_on w) q

counts_as : (at : ℕ) {u v : List ℕ} → u ≡ v → Counts at v → Counts at u
counts_as at e h = rw e h

pub shared_ref_as_front-lines_of : goal.shared_ref_as_front-lines_of
shared_ref_as_front-lines_of c = (few_lines c.args.p c.requires).slots

pub shared_ref_as_front-lines_of-2 : goal.shared_ref_as_front-lines_of-2
shared_ref_as_front-lines_of-2 c = (few_lines c.args.p c.requires).processes

pub shared_ref_as_front-lines_of-3 : goal.shared_ref_as_front-lines_of-3
shared_ref_as_front-lines_of-3 c = (few_lines c.args.p c.requires).conditions

pub shared_ref_as_front-lines_of-4 : goal.shared_ref_as_front-lines_of-4
shared_ref_as_front-lines_of-4 c = (few_lines c.args.p c.requires).edges

pub lines_of-requires : goal.lines_of-requires
lines_of-requires c =
    let p = c.args.p in
    let few = few_lines p c.requires in
    counts_as _ (slots_text p (search rules) few.slots) (counts_first _ _ (counts₁ p c.requires _ c.start-w.ensures.1 c.plan_line.ensures))

pub lines_of-requires-2 : goal.lines_of-requires-2
lines_of-requires-2 c =
    let p = c.args.p in
    let few = few_lines p c.requires in
    counts_as _ (processes_text p (search rules) few.processes) (counts_first _ _ (counts₂ p c.requires _ c.start-w.ensures.1 c.plan_line.ensures (as_lines _ c.lines_of.ensures (slots_text p (search rules) few.slots))))

pub lines_of-requires-3 : goal.lines_of-requires-3
lines_of-requires-3 c =
    let p = c.args.p in
    let few = few_lines p c.requires in
    counts_as _ (conditions_text p (search rules) few.conditions) (counts_first _ _ (counts₃ p c.requires _ c.start-w.ensures.1 c.plan_line.ensures (as_lines _ c.lines_of.ensures (slots_text p (search rules) few.slots)) (as_lines _ c.lines_of-2.ensures (processes_text p (search rules) few.processes))))

pub lines_of-requires-4 : goal.lines_of-requires-4
lines_of-requires-4 c =
    let p = c.args.p in
    let few = few_lines p c.requires in
    counts_as _ (edges_text p (search rules) few.edges) (counts_rest (part (as_lines _ c.lines_of-3.ensures (conditions_text p (search rules) few.conditions))) _ (counts₃ p c.requires _ c.start-w.ensures.1 c.plan_line.ensures (as_lines _ c.lines_of.ensures (slots_text p (search rules) few.slots)) (as_lines _ c.lines_of-2.ensures (processes_text p (search rules) few.processes))))

pub returns : goal.returns
returns c =
    let p = c.args.p in
    let few = few_lines p c.requires in
    printed p _ _ _ _ (ap (λ x. x.now) c.start-w.ensures.0) c.start-w.ensures.1 c.plan_line.ensures (as_lines _ c.lines_of.ensures (slots_text p (search rules) few.slots)) (as_lines _ c.lines_of-2.ensures (processes_text p (search rules) few.processes)) (as_lines _ c.lines_of-3.ensures (conditions_text p (search rules) few.conditions)) (as_lines _ c.lines_of-4.ensures (edges_text p (search rules) few.edges)) c.filled.ensures.0
    (c.out-1.given.1.1 (sym (ap (λ x. x.ghost_name) c.start-w.ensures.0) ∙ name _ _ c.plan_line.ensures ∙ name _ _ c.lines_of.ensures ∙ name _ _ c.lines_of-2.ensures ∙ name _ _ c.lines_of-3.ensures ∙ name _ _ c.lines_of-4.ensures) ∙ c.filled.ensures.1)
