-- `plan_refusals::wrong_sizes` meets its contract.
use mathlib.Core.Path.{◌≡◌, refl, ◌∙◌}
use mathlib.Core.Bool.{◌||◌}
use Rattle.std.proofs.Common.{rules, tests}
use Rattle.std.proofs.lemmas.Iterator.{YieldsList-from_slice}
use Rattle.std.proofs.lemmas.Iterator.Search.{any_from_yields_List}
use Rattle.lists.specs.Lists.{any}
use Rattle.model.specs.Refusals.{wrong_plan, wrong_slot, wrong_edge, wrong_ticks, wrong_sizes}
use Rattle.plan.specs.Memory.{slot_of, process_of, edge_of, lines}
use Rattle.plan.proofs.Taken.{any_shown}
use Rattle.plan_refusals.proofs.Joins.{first_holds, second_tells}
use Rattle.plan_refusals.proofs.lines.wrong_sizes.Goals as goal
use Rattle.plan_refusals.proofs.lines.wrong_sizes.Goals.{Joined-any, then-wrong_plan_line, else-wrong_plan_line, then-any, else-any}

-- what has been found of the plan line and the slots, and of the edges besides
slots : (c : Joined-any) → let p = lines c.args.p.now in c.if-wrong_plan_line.value ≡ (wrong_plan p.plan || any wrong_slot p.slots)
unfolding lines wrong_slot
slots c =
    elim c.if-wrong_plan_line.branch [
      | then-wrong_plan_line w ↦ first_holds _ w.value-is w.if-wrong_plan_line.true c.wrong_plan_line.ensures
      | else-wrong_plan_line w ↦
          let ss = w.slot_lines.result.now in
          second_tells
          (w.value-is ∙ any_from_yields_List (λ s. wrong_slot (slot_of s)) _ _ _ w.any.ensures.ran (YieldsList-from_slice ss cc) (λ x b q k. search (rules, tests))
          ∙ any_shown slot_of wrong_slot ss w.slot_lines.ensures)
          w.if-wrong_plan_line.false c.wrong_plan_line.ensures
    ]

edges : (c : Joined-any) → let p = lines c.args.p.now in c.if-any.value ≡ (wrong_plan p.plan || any wrong_slot p.slots || any wrong_edge p.edges)
unfolding wrong_edge
edges c =
    elim c.if-any.branch [
      | then-any w ↦ first_holds _ w.value-is w.if-any.true (slots c)
      | else-any w ↦
          let es = w.edge_lines.result.now in
          second_tells
          (w.value-is ∙ any_from_yields_List (λ e. wrong_edge (edge_of e)) _ _ _ w.any-else-any.ensures.ran (YieldsList-from_slice es cc) (λ x b q k. search (rules, tests))
          ∙ any_shown edge_of wrong_edge es w.edge_lines.ensures)
          w.if-any.false (slots c)
    ]

pub returns-then-any-2 : goal.returns-then-any-2
unfolding wrong_sizes
returns-then-any-2 c = first_holds _ refl c.if-any-2.true (edges (goal.at.returns-then-any-2 c).Joined-any)

pub returns-else-any-2 : goal.returns-else-any-2
unfolding wrong_sizes wrong_ticks
returns-else-any-2 c =
    let qs = c.process_lines.result.now in
    second_tells
    (any_from_yields_List (λ q. wrong_ticks (process_of q)) _ _ _ c.any-else-any-2.ensures.ran (YieldsList-from_slice qs cc) (λ x b q k. search (rules, tests))
    ∙ any_shown process_of wrong_ticks qs c.process_lines.ensures)
    c.if-any-2.false (edges (goal.at.returns-else-any-2 c).Joined-any)
