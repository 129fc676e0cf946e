-- `log_rows::put_unmet` meets its contract.
use Rattle.log_rows.proofs.Stores.{stored_unmet}
use Rattle.log_rows.proofs.put_unmet.Goals as goal

pub returns : goal.returns
returns c = let a = c.args in stored_unmet a.rows.now a.e a.x c.requires
