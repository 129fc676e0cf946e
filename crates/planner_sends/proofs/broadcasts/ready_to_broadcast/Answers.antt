-- `planner_sends::ready_to_broadcast` meets its contract, by the test that comes before the last.
use mathlib.Core.Path.{◌≡◌, ap, ◌∙◌}
use Prim.Native.Nat.{ℕ, ◌+◌}
use lib.ListN.{get_or}
use borrow.Author.Tests.{eq-eqb, ne_eqb}
use Rattle.plan_index.specs.Index.{laid}
use Rattle.log_rows.specs.Rows.{rows_of}
use Rattle.log_queries.specs.Reading.{came_by, placed_by}
use Rattle.planner_sends.specs.Packing.{ready_by}
use Rattle.planner_sends.proofs.broadcasts.ready_to_broadcast.Goals as goal
use Rattle.planner_sends.proofs.broadcasts.ready_to_broadcast.Goals.{After-comes_of}

-- when the broadcast arrives, as it is read
arrives : (s : After-comes_of) → let a = s.args in
    s.comes_of.result ≡ get_or (rows_of a.rows.now).comes ((laid a.index.now).conditionrow + a.k) 0
arrives s =
    let a = s.args in
    s.comes_of.ensures ∙ ap (λ (r : ℕ). get_or (rows_of a.rows.now).comes (r + a.k) 0) s.conditionrow_of.ensures.0

pub returns-else-comes_of-eq0 : goal.returns-else-comes_of-eq0
unfolding ready_by placed_by
returns-else-comes_of-eq0 c = simp (← arrives c.before, ne_eqb _ _ c.if-comes_of-eq0.false)

pub returns-then-comes_of-eq0 : goal.returns-then-comes_of-eq0
unfolding ready_by placed_by came_by
returns-then-comes_of-eq0 c =
    rw (← arrives c.before.before.before, eq-eqb _ _ c.if-comes_of-eq0.true, ← c.decider_of-d.ensures.0, ← c.comes_of-then-comes_of-eq0.ensures) c.came.ensures
