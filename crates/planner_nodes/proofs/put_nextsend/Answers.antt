-- `planner_nodes::put_nextsend` meets its contract.
use Rattle.planner_nodes.proofs.Stores.{stored_nextsend}
use Rattle.planner_nodes.proofs.put_nextsend.Goals as goal

pub returns : goal.returns
returns c = let a = c.args in stored_nextsend a.nodes.now a.n a.x c.requires
