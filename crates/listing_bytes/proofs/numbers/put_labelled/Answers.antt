-- `listing_bytes::put_labelled` meets its contract: the label is stored, then the digits.
use Rattle.text_lines.proofs.Puts.{put_then}
use Rattle.listing_bytes.proofs.numbers.put_labelled.Goals as goal

pub returns : goal.returns
returns c = put_then c.put_word-end.ensures c.put_number.ensures
