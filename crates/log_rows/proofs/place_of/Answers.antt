-- `log_rows::place_of` meets its contract.
use Rattle.log_rows.specs.Rows.{rows_of}
use Rattle.lists.proofs.Cutting.{at_field}
use Rattle.log_rows.proofs.place_of.Goals as goal

pub returns : goal.returns
unfolding rows_of
returns c = at_field c.args.rows.now 390 198 c.args.row c.requires
