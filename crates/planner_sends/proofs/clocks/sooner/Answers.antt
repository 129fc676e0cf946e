-- `planner_sends::sooner` meets its contract: its test is the first of the definition, and the lesser of two numbers is
-- what the second gives.
use mathlib.Core.Path.{◌≡◌, ◌∙◌}
use Rattle.std.specs.Prelude.{if◌then◌else◌}
use Prim.Native.Nat.{ℕ, min}
use native.Mathlib.Omega.{arith}
use lib.Dec.{ltb}
use borrow.Author.Tests.{lt-ltb, le-ltb}
use Rattle.std.proofs.lemmas.Bool.Decides.{nat_tests}
use Rattle.planner_sends.specs.Clocks.{sooner_by}
use Rattle.planner_sends.proofs.clocks.sooner.Goals as goal

-- the lesser of two numbers, by a test
lesser : (a b : ℕ) → min a b ≡ (if ltb b a then b else a)
lesser a b = grind (arith, nat_tests)

pub returns-then-u-x : goal.returns-then-u-x
unfolding sooner_by
returns-then-u-x c = rw (lt-ltb _ _ c.if-u-x.true) (c.min.ensures ∙ lesser c.args.least c.args.x)

pub returns-else-u-x : goal.returns-else-u-x
unfolding sooner_by
returns-else-u-x c = rw (le-ltb _ _ c.if-u-x.false)
