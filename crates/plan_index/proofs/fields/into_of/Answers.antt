-- `plan_index::into_of` meets its contract.
use mathlib.Core.Path.{◌∙◌}
use native.Mathlib.Omega.{arith}
use Rattle.plan_index.proofs.Places.{field_at}
use Rattle.plan_index.specs.Index.{laid}
use Rattle.plan_index.proofs.fields.into_of.Goals as goal

pub returns : goal.returns
unfolding laid
returns c = let e = c.wide.ensures ∙ field_at c.args.index.now 1039 128 c.args.j c.requires.0 in (e, omega (arith, e, c.requires.1.into_edges c.args.j))
