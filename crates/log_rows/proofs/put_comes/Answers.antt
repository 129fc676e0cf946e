-- `log_rows::put_comes` meets its contract.
use Rattle.log_rows.proofs.Stores.{stored_comes}
use Rattle.log_rows.proofs.put_comes.Goals as goal

pub returns : goal.returns
returns c = let a = c.args in stored_comes a.rows.now a.row a.x c.requires
