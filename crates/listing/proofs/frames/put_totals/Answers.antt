-- `listing::put_totals` meets its contract: the line of the delay is stored, then the passed lines.
use native.Mathlib.Omega.{arith}
use lib.ListN.{length-append}
use Rattle.listing_count.specs.Parts.{totals_of}
use Rattle.listing_count.proofs.Lengths.{totals_length}
use Rattle.text_lines.proofs.Puts.{put_then}
use Rattle.listing_bytes.proofs.Stored.{fits_less, fits_behind}
use Rattle.listing.proofs.frames.put_totals.Goals as goal

pub put_labelled-first-requires : goal.put_labelled-first-requires
put_labelled-first-requires c =
    fits_less c.requires.0 (simp length-append (omega (arith, totals_length c.args.delay c.args.passed.now)))

pub put_word-second-requires : goal.put_word-second-requires
put_word-second-requires c =
    fits_behind c.put_labelled-first.ensures c.requires.0 (simp length-append (omega (arith, totals_length c.args.delay c.args.passed.now)))

pub put_counts-requires : goal.put_counts-requires
put_counts-requires c =
    (fits_behind (put_then c.put_labelled-first.ensures c.put_word-second.ensures) c.requires.0 (simp length-append (omega (arith, totals_length c.args.delay c.args.passed.now))), c.requires.1)

pub returns : goal.returns
unfolding totals_of
returns c = put_then c.put_labelled-first.ensures (put_then c.put_word-second.ensures c.put_counts.ensures)
