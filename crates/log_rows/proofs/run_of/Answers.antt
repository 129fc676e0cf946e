-- `log_rows::run_of` meets its contract.
use Rattle.log_rows.specs.Rows.{rows_of}
use Rattle.lists.proofs.Cutting.{at_field}
use Rattle.log_rows.proofs.run_of.Goals as goal

pub returns : goal.returns
unfolding rows_of
returns c = at_field c.args.rows.now 0 64 c.args.i c.requires
