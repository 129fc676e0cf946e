-- `log_rows::comes_of` meets its contract.
use Rattle.log_rows.specs.Rows.{rows_of}
use Rattle.lists.proofs.Cutting.{at_field}
use Rattle.log_rows.proofs.comes_of.Goals as goal

pub returns : goal.returns
unfolding rows_of
returns c = at_field c.args.rows.now 192 198 c.args.row c.requires
