-- `log_rows::put_run` meets its contract.
use Rattle.log_rows.proofs.Stores.{stored_run}
use Rattle.log_rows.proofs.put_run.Goals as goal

pub returns : goal.returns
returns c = let a = c.args in stored_run a.rows.now a.i a.x c.requires
