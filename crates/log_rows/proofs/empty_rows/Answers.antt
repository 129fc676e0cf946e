-- `log_rows::empty_rows` meets its contract.
use Rattle.log_rows.proofs.Stores.{empty}
use Rattle.log_rows.proofs.empty_rows.Goals as goal

pub returns : goal.returns
returns c = empty
