-- `bitset::is_empty` meets its contract: 0 is the mask with no members.
use Rattle.bitset.proofs.Sets.{mask_empty}
use Rattle.bitset.proofs.is_empty.Goals as goal

pub returns : goal.returns
returns c = mask_empty c.args.mask c.requires
