-- `plan_index::decider_of` meets its contract.
use mathlib.Core.Path.{◌∙◌}
use native.Mathlib.Omega.{arith}
use Rattle.plan_index.proofs.Places.{field_at}
use Rattle.plan_index.specs.Index.{laid}
use Rattle.plan_index.proofs.fields.decider_of.Goals as goal

pub returns : goal.returns
unfolding laid
returns c = let e = c.wide.ensures ∙ field_at c.args.index.now 968 6 c.args.k c.requires.0 in (e, omega (arith, e, c.requires.1.decider_small c.args.k))
