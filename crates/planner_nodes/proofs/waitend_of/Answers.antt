-- `planner_nodes::waitend_of` meets its contract.
use mathlib.Core.Path.{◌∙◌}
use Rattle.planner_nodes.specs.Nodes.{nodes_of}
use Rattle.lists.proofs.Cutting.{at_field}
use Rattle.planner_nodes.proofs.waitend_of.Goals as goal

pub returns : goal.returns
unfolding nodes_of
returns c = c.wide.ensures ∙ at_field c.args.nodes.now 32 8 c.args.n c.requires
