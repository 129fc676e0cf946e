-- `plan_index::remote_of` meets its contract.
use native.Mathlib.Omega.{arith}
use Rattle.plan_index.proofs.Places.{field_at}
use Rattle.plan_index.specs.Index.{laid}
use Rattle.plan_index.proofs.fields.remote_of.Goals as goal

pub returns : goal.returns
unfolding laid
returns c = let e = field_at c.args.index.now 456 128 c.args.e c.requires.0 in (e, omega (arith, e, c.requires.1.remote_most c.args.e))
