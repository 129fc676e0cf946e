-- `bitset::how_many` meets its contract: the ones of a mask are its members.
use Rattle.bitset.proofs.Sets.{mask_count}
use Rattle.bitset.proofs.how_many.Goals as goal

pub returns : goal.returns
returns c = mask_count c.args.mask c.requires
