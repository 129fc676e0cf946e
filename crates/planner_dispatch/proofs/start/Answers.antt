-- `planner_dispatch::start` meets its contract: where a process can start, its end is entered and handed back, else
-- nothing changes.
use native.Mathlib.Omega.{arith}
use borrow.Author.Tests.{ne_eqb}
use Rattle.planner_dispatch.specs.Starts.{end_after, rows_after}
use Rattle.planner_dispatch.proofs.start.Goals as goal

pub returns-in_default : goal.returns-in_default
unfolding end_after rows_after
returns-in_default c =
    let e = c.in_default.ensures.first in
    record { end = simp (← e); rows = simp (← e) }

pub returns : goal.returns
unfolding end_after rows_after
returns c =
    let e = c.in-Some.ensures.first in
    let h = ne_eqb c.in-Some.x 64 (λ z. omega (arith, z, c.in-Some.ensures.among)) in
    record { end = simp (← e, h, ← c.ticks_of.ensures.0); rows = simp (← e, h, ← c.ticks_of.ensures.0) c.put_comes.ensures }
