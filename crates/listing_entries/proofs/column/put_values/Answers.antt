-- `listing_entries::put_values` meets its contract: where the word of the known conditions is one of the sets, it has
-- no bit past the sixth and none past the plan's conditions.
use native.Mathlib.Omega.{arith}
use Rattle.listing_count.proofs.Cases.{values_same}
use Rattle.listing_entries.proofs.SetCounts.{sets_most}
use Rattle.listing_entries.proofs.column.put_values.Goals as goal

pub put_six-requires : goal.put_six-requires
put_six-requires c =
    let m = sets_most c.args.conditions in
    rw (values_same c.args.conditions 6 c.args.known c.args.values 0 (omega (arith, c.requires.0, m.1)) (omega (arith, c.requires.0, m.0))) at c.requires.1

pub returns-then-known-sets : goal.returns-then-known-sets
returns-then-known-sets c =
    let m = sets_most c.args.conditions in
    rw (values_same c.args.conditions 6 c.args.known c.args.values 0 (omega (arith, c.requires.0, m.1)) (omega (arith, c.requires.0, m.0))) c.put_six.ensures
