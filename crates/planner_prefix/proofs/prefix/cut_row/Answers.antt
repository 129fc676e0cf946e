-- `planner_prefix::cut_row` meets its contract.
use borrow.Author.Tests.{lt-ltb, le-ltb}
use Prim.Native.Nat.{◌-◌}
use native.Mathlib.Omega.{arith}
use Rattle.planner_prefix.proofs.prefix.cut_row.Goals as goal

pub returns-then-saturating_sub-u : goal.returns-then-saturating_sub-u
returns-then-saturating_sub-u c = let a = c.args in rw (lt-ltb (a.x - a.lasts) a.u (omega (arith, c.if-saturating_sub-u.true, c.saturating_sub.ensures)))

pub returns-else-saturating_sub-u : goal.returns-else-saturating_sub-u
returns-else-saturating_sub-u c = let a = c.args in rw (le-ltb (a.x - a.lasts) a.u (omega (arith, c.if-saturating_sub-u.false, c.saturating_sub.ensures)))
