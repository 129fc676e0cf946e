-- `planner_sends::waits` meets its contract, for a message that is sent and for one that is not.
use mathlib.Core.Path.{◌≡◌, ap, ◌∙◌}
use Prim.Native.Nat.{ℕ, ◌+◌}
use lib.ListN.{get_or}
use borrow.Author.Tests.{eq-eqb, ne_eqb}
use Rattle.plan_index.specs.Index.{laid}
use Rattle.log_rows.specs.Rows.{rows_of}
use Rattle.log_queries.specs.Reading.{placed_by}
use Rattle.planner_sends.specs.Packing.{waits_by}
use Rattle.planner_sends.proofs.messages.waits.Goals as goal
use Rattle.planner_sends.proofs.messages.waits.Goals.{After-comes_of}

-- when the message arrives, as it is read
arrives : (s : After-comes_of) → let a = s.args in
    s.comes_of.result ≡ get_or (rows_of a.rows.now).comes ((laid a.index.now).processes + a.e) 0
arrives s =
    let a = s.args in
    s.comes_of.ensures ∙ ap (λ (r : ℕ). get_or (rows_of a.rows.now).comes (r + a.e) 0) s.processes_of.ensures.0

pub returns-else-comes_of-eq0 : goal.returns-else-comes_of-eq0
unfolding waits_by placed_by
returns-else-comes_of-eq0 c =
    simp (← arrives c.before, ne_eqb _ _ c.if-comes_of-eq0.false)

pub returns-then-comes_of-eq0 : goal.returns-then-comes_of-eq0
unfolding waits_by placed_by
returns-then-comes_of-eq0 c =
    simp (← arrives c.before.before, eq-eqb _ _ c.if-comes_of-eq0.true) c.message_ready.ensures
