-- `planner_nodes::empty_nodes` meets its contract.
use Rattle.planner_nodes.proofs.Stores.{empty}
use Rattle.planner_nodes.proofs.empty_nodes.Goals as goal

pub returns : goal.returns
returns c = empty
