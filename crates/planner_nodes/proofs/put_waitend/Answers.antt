-- `planner_nodes::put_waitend` meets its contract.
use Rattle.planner_nodes.proofs.Stores.{stored_waitend}
use Rattle.planner_nodes.proofs.put_waitend.Goals as goal

pub returns : goal.returns
returns c = let a = c.args in stored_waitend a.nodes.now a.n a.x c.requires
