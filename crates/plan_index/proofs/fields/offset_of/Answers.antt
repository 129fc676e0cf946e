-- `plan_index::offset_of` meets its contract.
use Rattle.plan_index.proofs.Places.{field_at}
use Rattle.plan_index.specs.Index.{laid}
use Rattle.plan_index.proofs.fields.offset_of.Goals as goal

pub returns : goal.returns
unfolding laid
returns c = field_at c.args.index.now 1553 8 c.args.n c.requires
