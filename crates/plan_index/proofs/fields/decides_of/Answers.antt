-- `plan_index::decides_of` meets its contract.
use native.Mathlib.Omega.{arith}
use Rattle.plan_index.proofs.Places.{field_at}
use Rattle.plan_index.specs.Index.{laid}
use Rattle.plan_index.proofs.fields.decides_of.Goals as goal

pub returns : goal.returns
unfolding laid
returns c = let e = field_at c.args.index.now 1577 8 c.args.n c.requires.0 in (e, omega (arith, e, c.requires.1.decides_small c.args.n))
