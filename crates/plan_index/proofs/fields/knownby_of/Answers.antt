-- `plan_index::knownby_of` meets its contract.
use mathlib.Core.Path.{◌∙◌}
use native.Mathlib.Omega.{arith}
use Rattle.plan_index.proofs.Places.{field_at}
use Rattle.plan_index.specs.Index.{laid}
use Rattle.plan_index.proofs.fields.knownby_of.Goals as goal

pub returns : goal.returns
unfolding laid
returns c = let e = c.wide.ensures ∙ field_at c.args.index.now 328 128 c.args.e c.requires.0 in (e, omega (arith, e, c.requires.1.knownby_small c.args.e))
