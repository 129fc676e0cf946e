-- The rows of a plan index: processes, then edges, then conditions.
-- Assumes nothing.
use Rattle.std.specs.Prelude.{◌+◌, ◌≤◌}
use Rattle.limits.specs.Limits.{CONDITIONS, EDGES}
use Rattle.plan_index.specs.declared.PlanIndex.{PlanIndex}

-- there are no more rows of edges and of conditions than edges and conditions
pub record RowOrder (b : PlanIndex) : Type 0 where
  pub edge_rows : b.conditionrow ≤ b.processes + EDGES
  pub condition_rows : b.rows ≤ b.conditionrow + CONDITIONS
