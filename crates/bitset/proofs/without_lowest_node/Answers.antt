-- `bitset::without_lowest_node` meets its contract: the lowest one is cleared, and the other bits stay.
use Rattle.bitset.proofs.Sets.{node_split, mask_lower}
use Rattle.bitset.proofs.without_lowest_node.Goals as goal

pub returns : goal.returns
returns c = (rw (node_split c.args.those c.requires.0 c.requires.1), mask_lower c.args.those c.requires.0)
