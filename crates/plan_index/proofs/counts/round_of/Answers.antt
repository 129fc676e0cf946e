-- `plan_index::round_of` meets its contract.
use mathlib.Core.Path.{refl}
use Rattle.plan_index.specs.Index.{laid}
use Rattle.plan_index.proofs.counts.round_of.Goals as goal

pub returns : goal.returns
unfolding laid
returns c = refl
