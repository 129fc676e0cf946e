-- `plan_index::ticks_of` meets its contract.
use native.Mathlib.Omega.{arith}
use Rattle.plan_index.proofs.Places.{field_at}
use Rattle.plan_index.specs.Index.{laid}
use Rattle.plan_index.proofs.fields.ticks_of.Goals as goal

pub returns : goal.returns
unfolding laid
returns c = let e = field_at c.args.index.now 72 64 c.args.i c.requires.0 in (e, omega (arith, e, c.requires.1.ticks_most c.args.i))
