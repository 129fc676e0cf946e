-- `planner_sends::changes` meets its contract: its test is that of the definition.
use borrow.Author.Tests.{eq-eqb, ne_eqb}
use Rattle.planner_sends.specs.Clocks.{changes_at}
use Rattle.planner_sends.proofs.clocks.changes.Goals as goal

pub returns-else-broadcastend-u : goal.returns-else-broadcastend-u
unfolding changes_at
returns-else-broadcastend-u c = rw (ne_eqb _ _ c.if-broadcastend-u.false)

pub returns-then-broadcastend-u : goal.returns-then-broadcastend-u
unfolding changes_at
returns-then-broadcastend-u c = rw (eq-eqb _ _ c.if-broadcastend-u.true)
