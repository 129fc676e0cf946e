-- `planner_table::count_pass_overs` meets its contract: the pass-overs of all combinations, node by node, are those of
-- the plan index's plan.
use mathlib.Core.Path.{◌∙◌}
use Prim.Native.Nat.{ℕ}
use lib.ListN.{length-replicate}
use Rattle.plan.specs.Memory.{lines}
use Rattle.plan_index.specs.Index.{laid}
use Rattle.plan_layout.specs.Indexed.{Indexed}
use Rattle.plan_layout.proofs.Bounds.{bounded}
use Rattle.plan_layout.proofs.IndexOfLines.{indexed_lines}
use Rattle.planner_table.proofs.CountsOfModel.{counts_front}
use Rattle.planner_table.proofs.count_pass_overs.Goals as goal
use Rattle.planner_table.proofs.count_pass_overs.Goals.{After-of_plan-index}

-- what the plan index says of the plan
indexed : (c : After-of_plan-index) → Indexed (lines c.args.p) (laid c.of_plan-index.result)
indexed c = indexed_lines c.args.p c.requires c.of_plan-index.ensures

pub plan_combinations-t-requires : goal.plan_combinations-t-requires
plan_combinations-t-requires c = (
  record { plan = lines c.args.p; passes = c.requires; indexed = indexed (goal.at.plan_combinations-t-requires c).After-of_plan-index },
  length-replicate {A = ℕ} 12672 1,
  length-replicate {A = ℕ} 12672 1,
  length-replicate {A = ℕ} 64 0,
)

pub slots_of-requires : goal.slots_of-requires
slots_of-requires c = bounded _ _ (indexed (goal.at.slots_of-requires c).After-of_plan-index)

pub store_counts-requires : goal.store_counts-requires
store_counts-requires c = c.slots_of.ensures.1

pub returns : goal.returns
returns c =
    let p = lines c.args.p in
    let o = indexed (goal.at.returns c).After-of_plan-index in
    let all = c.plan_combinations-t.ensures p c.requires o in
    counts_front p _ _ _ _ _ all _ (c.slots_of.ensures.0 ∙ o.slots_count) c.args.passed.now c.store_counts.ensures
