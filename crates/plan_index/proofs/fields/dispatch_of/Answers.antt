-- `plan_index::dispatch_of` meets its contract.
use mathlib.Core.Path.{◌∙◌}
use native.Mathlib.Omega.{arith}
use Rattle.plan_index.proofs.Places.{field_at}
use Rattle.plan_index.specs.Index.{laid}
use Rattle.plan_index.proofs.fields.dispatch_of.Goals as goal

pub returns : goal.returns
unfolding laid
returns c = let e = c.wide.ensures ∙ field_at c.args.index.now 1232 128 c.args.j c.requires.0 in (e, omega (arith, e, c.requires.1.dispatch_members c.args.j))
