-- `planner_nodes::put_noted` meets its contract.
use Rattle.planner_nodes.proofs.Stores.{stored_noted}
use Rattle.planner_nodes.proofs.put_noted.Goals as goal

pub returns : goal.returns
returns c = let a = c.args in stored_noted a.nodes.now a.i a.x c.requires
