-- `plan_layout::deciders` meets its contract: the part that is copied fills the front of the zeros.
use mathlib.Core.Path.{refl, ap, ◌∙◌}
use Prim.Native.Nat.{◌+◌}
use native.Mathlib.Omega.{arith}
use lib.ListN.{get_or}
use Rattle.lists.proofs.Fill.{fill_part, fill_same}
use Rattle.plan.specs.Tests.{at}
use Rattle.plan_layout.proofs.index.deciders.Goals as goal

pub returns : goal.returns
returns c =
    let p = c.args.p in
    c.copy_part.ensures
    ∙ fill_part 6 p.condition 0 p.conditions refl c.requires (omega arith)
    ∙ fill_same 6 (λ k. get_or p.condition (0 + k) 0) (at p.condition) p.conditions (λ k l. ap (at p.condition) (omega arith))
