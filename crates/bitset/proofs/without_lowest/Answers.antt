-- `bitset::without_lowest` meets its contract: the lowest one is cleared, and the other bits stay.
use Rattle.bitset.proofs.Sets.{mask_split, mask_lower}
use Rattle.bitset.proofs.without_lowest.Goals as goal

pub returns : goal.returns
returns c = (rw (mask_split c.args.mask c.requires.0 c.requires.1), mask_lower c.args.mask c.requires.0)
