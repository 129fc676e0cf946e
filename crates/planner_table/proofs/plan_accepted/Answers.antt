-- `planner_table::plan_accepted` meets its contract: the logs of all combinations are those of the plan index's plan,
-- and what is written from them is its answer.
use Prim.Native.Nat.{ℕ}
use lib.ListN.{length-replicate}
use Rattle.plan.specs.Memory.{lines}
use Rattle.plan_layout.proofs.IndexOfLines.{indexed_lines}
use Rattle.planner_table.proofs.plan_accepted.Goals as goal

pub plan_combinations-t-requires : goal.plan_combinations-t-requires
plan_combinations-t-requires c = (
  record { plan = lines c.args.p; passes = c.requires; indexed = indexed_lines c.args.p c.requires c.of_plan-index.ensures },
  length-replicate {A = ℕ} 12672 1,
  length-replicate {A = ℕ} 12672 1,
  length-replicate {A = ℕ} 64 0,
)

pub write_all-requires : goal.write_all-requires
write_all-requires c =
    let p = lines c.args.p in
    let o = indexed_lines c.args.p c.requires c.of_plan-index.ensures in
    record { plan = p; passes = c.requires; indexed = o; all = c.plan_combinations-t.ensures p c.requires o }

pub returns : goal.returns
returns c =
    let p = lines c.args.p in
    let o = indexed_lines c.args.p c.requires c.of_plan-index.ensures in
    c.write_all.ensures p c.requires o (c.plan_combinations-t.ensures p c.requires o)
