-- `bitset::lowest` meets its contract: as many zeros trail as the lowest member says.
use Rattle.bitset.proofs.Sets.{mask_split}
use Rattle.bitset.proofs.lowest.Goals as goal

pub returns : goal.returns
returns c = rw (mask_split c.args.mask c.requires.0 c.requires.1)
