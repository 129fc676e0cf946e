-- `planner_nodes::put_lastarrival` meets its contract.
use Rattle.planner_nodes.proofs.Stores.{stored_lastarrival}
use Rattle.planner_nodes.proofs.put_lastarrival.Goals as goal

pub returns : goal.returns
returns c = let a = c.args in stored_lastarrival a.nodes.now a.n a.x c.requires
