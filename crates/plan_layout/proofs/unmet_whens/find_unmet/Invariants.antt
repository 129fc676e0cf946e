-- `plan_layout::find_unmet` meets its contract: before turn e the first e are filled, and where there is no `when` the 0
-- stands already.
use mathlib.Core.Path.{◌≡◌}
use Prim.Native.Nat.{ℕ, ◌≤◌}
use Rattle.lists.specs.Lists.{fill}
use Rattle.plan.specs.Tests.{at}
use Rattle.plan_index.specs.declared.PlanIndex.{PlanIndex}
use Rattle.plan_index.specs.Index.{laid}
use Rattle.log_rows.specs.Rows.{rows_of, with_unmet}
use Rattle.plan_layout.specs.Unmet.{unmet_of, value_of}
use Rattle.plan_layout.proofs.unmet_whens.find_unmet.Given as goal

-- whether the `when` of an edge is unmet
abbrev pub unmet-at : PlanIndex → ℕ → ℕ → ℕ
unmet-at b c k = unmet_of (at b.kind k) (value_of c (at b.condition k))

abbrev pub invariant-loop-e : goal.invariant-loop-e
invariant-loop-e l = (l.e ≤ l.edges) × (rows_of l.rows ≡ with_unmet (fill 128 (unmet-at (laid l.index) l.combination) l.e) (rows_of l.initial.rows))
