-- `listing_entries::put_begin` meets its contract: the first word and the number are stored, then the column's first
-- word.
use mathlib.Core.List.{◌++◌}
use Rattle.model.specs.Text.{text, decimal}
use Rattle.text_lines.proofs.Puts.{put_then}
use Rattle.listing_bytes.proofs.Stored.{fits_first, fits_rest}
use Rattle.listing_entries.proofs.lines.put_begin.Goals as goal

pub put_labelled-end-requires : goal.put_labelled-end-requires
put_labelled-end-requires c =
    fits_first (c.args.label.now ++ decimal c.args.number) (text " (when") c.requires

pub put_word-requires : goal.put_word-requires
put_word-requires c = fits_rest c.put_labelled-end.ensures (text " (when") c.requires

pub returns : goal.returns
returns c = put_then c.put_labelled-end.ensures c.put_word.ensures
