-- `planner_prefix::store_rows` meets its contract: the ends and the places of the rows are stored in their parts.
use mathlib.Core.Path.{sym, ap, ◌∙◌}
use Prim.Native.Nat.{◌*◌}
use native.Mathlib.Omega.{arith}
use lib.Seq.{sets}
use Rattle.lists.proofs.Parts.{slice_taken}
use Rattle.lists.specs.Cut.{cut}
use Rattle.log_rows.specs.Rows.{rows_of}
use Rattle.planner_prefix.proofs.stored_plans.store_rows.Goals as goal

pub returns : goal.returns
unfolding rows_of cut
returns c =
    let a = c.args in
    let xs = a.rows.now in
    record {
      rows_stored = c.copy_numbers.ensures ∙ ap (sets a.comes.now (a.c * 198)) (sym (slice_taken xs 192 198 (omega arith)));
      places_stored = c.copy_numbers-2.ensures ∙ ap (sets a.place.now (a.c * 198)) (sym (slice_taken xs 390 198 (omega arith)));
    }
