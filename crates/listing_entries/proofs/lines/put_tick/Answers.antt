-- `listing_entries::put_tick` meets its contract: the word before the tick is stored, then its digits.
use Rattle.text_lines.proofs.Puts.{put_then}
use Rattle.listing_entries.proofs.lines.put_tick.Goals as goal

pub returns : goal.returns
returns c = put_then c.put_word-number.ensures c.put_digits.ensures
