-- `planner_nodes::put_passed` meets its contract.
use Rattle.planner_nodes.proofs.Stores.{stored_passed}
use Rattle.planner_nodes.proofs.put_passed.Goals as goal

pub returns : goal.returns
returns c = let a = c.args in stored_passed a.nodes.now a.n a.x c.requires
