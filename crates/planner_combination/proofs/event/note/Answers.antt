-- `planner_combination::note` meets its contract: the counts are noted where a broadcast ends, and nothing changes
-- elsewhere.
use borrow.Author.Tests.{eq-eqb, ne_eqb}
use Rattle.planner_combination.specs.Events.{note_by}
use Rattle.planner_combination.proofs.event.note.Goals as goal

pub returns-then-broadcastend-u : goal.returns-then-broadcastend-u
unfolding note_by
returns-then-broadcastend-u c = let q = eq-eqb _ _ c.if-broadcastend-u.true in rw q c.note_all.ensures

pub returns-else-broadcastend-u : goal.returns-else-broadcastend-u
unfolding note_by
returns-else-broadcastend-u c = rw (ne_eqb _ _ c.if-broadcastend-u.false)
