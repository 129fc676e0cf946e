-- `planner_combinations::plan_combinations` meets its contract: before turn c the combinations below c are planned, and
-- the turn plans c.
use Prim.Native.Nat.{◌≤◌}
use Rattle.plan_index.specs.Index.{laid}
use Rattle.planner_combinations.proofs.AllPlanned.{Sofar}
use Rattle.planner_combinations.proofs.plan_combinations.Given as goal

abbrev pub invariant-loop-c : goal.invariant-loop-c
invariant-loop-c l = (l.c ≤ l.n) × Sofar (laid l.index) l.c l.latest l.comes l.place l.since l.notes l.passed
