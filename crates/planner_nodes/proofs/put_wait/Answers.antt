-- `planner_nodes::put_wait` meets its contract.
use Rattle.planner_nodes.proofs.Stores.{stored_wait}
use Rattle.planner_nodes.proofs.put_wait.Goals as goal

pub returns : goal.returns
returns c = let a = c.args in stored_wait a.nodes.now a.j a.x c.requires
