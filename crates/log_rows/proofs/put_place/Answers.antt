-- `log_rows::put_place` meets its contract.
use Rattle.log_rows.proofs.Stores.{stored_place}
use Rattle.log_rows.proofs.put_place.Goals as goal

pub returns : goal.returns
returns c = let a = c.args in stored_place a.rows.now a.row a.x c.requires
