-- `planner_packing::fits` meets its contract: its test is that of the definition.
use mathlib.Core.Path.{ap, ◌∙◌}
use Prim.Native.Nat.{ℕ}
use lib.Dec.{leb}
use lib.ListN.{get_or}
use Rattle.plan_index.specs.Index.{laid}
use Rattle.planner_packing.proofs.packing.fits.Goals as goal

pub returns : goal.returns
returns c =
    let a = c.args in
    ap (λ (x : ℕ). leb x a.left) (c.bytes_of.ensures.0 ∙ ap (λ (e : ℕ). get_or (laid a.index.now).bytes e 0) c.wide.ensures)
