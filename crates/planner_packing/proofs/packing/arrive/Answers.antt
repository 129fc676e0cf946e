-- `planner_packing::arrive` meets its contract: a broadcast arrives at every node, and nothing changes without one.
use mathlib.Core.Path.{refl}
use Rattle.planner_packing.proofs.packing.arrive.Goals as goal

pub returns-then-broadcast : goal.returns-then-broadcast
returns-then-broadcast c = rw c.if-broadcast.true c.arrive_all.ensures

pub returns-else-broadcast : goal.returns-else-broadcast
returns-else-broadcast c = rw c.if-broadcast.false refl
