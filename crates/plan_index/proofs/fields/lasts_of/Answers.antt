-- `plan_index::lasts_of` meets its contract.
use Rattle.plan_index.proofs.Places.{field_at}
use Rattle.plan_index.specs.Index.{laid}
use Rattle.plan_index.proofs.fields.lasts_of.Goals as goal

pub returns : goal.returns
unfolding laid
returns c = field_at c.args.index.now 1561 8 c.args.n c.requires
