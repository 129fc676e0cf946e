-- `planner_nodes::put_busy` meets its contract.
use Rattle.planner_nodes.proofs.Stores.{stored_busy}
use Rattle.planner_nodes.proofs.put_busy.Goals as goal

pub returns : goal.returns
returns c = let a = c.args in stored_busy a.nodes.now a.n a.x c.requires
