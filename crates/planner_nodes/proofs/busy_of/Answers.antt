-- `planner_nodes::busy_of` meets its contract.
use Rattle.planner_nodes.specs.Nodes.{nodes_of}
use Rattle.lists.proofs.Cutting.{at_field}
use Rattle.planner_nodes.proofs.busy_of.Goals as goal

pub returns : goal.returns
unfolding nodes_of
returns c = at_field c.args.nodes.now 0 8 c.args.n c.requires
