-- `step` gives the column once one more condition is read.
use mathlib.Core.Path.{refl, sym}
use native.Mathlib.Omega.{arith}
use Rattle.listing_scanner.specs.Columns.{not_named, is_named}
use Rattle.listing_scanner.proofs.ColumnSteps.{value_one, small_product}
use Rattle.listing_scanner.proofs.columns.step.Goals as goal

pub returns-in_default : goal.returns-in_default
returns-in_default c = not_named (sym c.in_default.ensures.same) refl

pub overflow_mul-result : goal.overflow_mul-result
overflow_mul-result c =
    let v = c.in-Some.v in
    omega (arith, small_product v c.args.bit (value_one c.args.k v _ _ c.in-Some.ensures.same))

pub overflow_add-result-2 : goal.overflow_add-result-2
overflow_add-result-2 c =
    let v = c.in-Some.v in
    omega (arith, small_product v c.args.bit (value_one c.args.k v _ _ c.in-Some.ensures.same))

pub returns : goal.returns
returns c =
    let v = c.in-Some.v in
    let n = c.in-Some.ensures in
    is_named v (value_one c.args.k v _ _ n.same) (sym n.same) n.within refl refl
