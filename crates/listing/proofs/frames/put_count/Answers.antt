-- `listing::put_count` meets its contract: the labelled numbers are stored, then the end of the line.
use native.Mathlib.Omega.{arith}
use lib.ListN.{length-append}
use Rattle.listing_count.specs.Parts.{passed_of}
use Rattle.listing_count.proofs.Lengths.{passed_length}
use Rattle.text_lines.proofs.Puts.{put_then}
use Rattle.listing_bytes.proofs.Stored.{fits_less, fits_behind}
use Rattle.listing.proofs.frames.put_count.Goals as goal

pub put_labelled-first-requires : goal.put_labelled-first-requires
put_labelled-first-requires c =
    fits_less c.requires (simp length-append (omega (arith, passed_length c.args.node c.args.count)))

pub put_labelled-second-requires : goal.put_labelled-second-requires
put_labelled-second-requires c =
    fits_behind c.put_labelled-first.ensures c.requires (simp length-append (omega (arith, passed_length c.args.node c.args.count)))

pub put_word-requires : goal.put_word-requires
put_word-requires c =
    fits_behind (put_then c.put_labelled-first.ensures c.put_labelled-second.ensures) c.requires (simp length-append (omega (arith, passed_length c.args.node c.args.count)))

pub returns : goal.returns
unfolding passed_of
returns c = put_then c.put_labelled-first.ensures (put_then c.put_labelled-second.ensures c.put_word.ensures)
