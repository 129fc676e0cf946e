-- `planner_combination::begin` meets its contract: the nodes start where the test says so, and nothing changes
-- elsewhere.
use borrow.Author.Tests.{eq-eqb, ne_eqb}
use Rattle.plan_index.specs.Index.{laid}
use Rattle.planner_nodes.specs.Nodes.{nodes_of}
use Rattle.planner_dispatch.proofs.Fresh.{soonest_none}
use Rattle.planner_combination.specs.Events.{begun_by}
use Rattle.planner_combination.proofs.event.begin.Goals as goal

pub returns-then-come-u : goal.returns-then-come-u
unfolding begun_by
returns-then-come-u c =
    let q = eq-eqb _ _ c.if-come-u.true in
    let e = c.starts.ensures in
    record { rows = rw q e.rows; nodes = rw q e.nodes; soonest = e.soonest }

pub returns-else-come-u : goal.returns-else-come-u
unfolding begun_by
returns-else-come-u c =
    let e = ne_eqb _ _ c.if-come-u.false in
    let a = c.args in
    record { rows = rw e; nodes = rw e; soonest = soonest_none (laid a.index.now).slots a.u (nodes_of a.nodes.now).busy }
