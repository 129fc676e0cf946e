-- `bitset::lowest_node` meets its contract: as many zeros trail as the lowest member says.
use Rattle.bitset.proofs.Sets.{node_split}
use Rattle.bitset.proofs.lowest_node.Goals as goal

pub returns : goal.returns
returns c = rw (node_split c.args.those c.requires.0 c.requires.1)
