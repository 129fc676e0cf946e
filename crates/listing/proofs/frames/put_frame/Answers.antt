-- `listing::put_frame` meets its contract: the labelled numbers are stored, then the end of the line.
use Rattle.model.specs.Text.{text}
use Rattle.text_lines.specs.Label.{labelled}
use Rattle.listing_count.specs.Parts.{frame_of}
use Rattle.text_lines.proofs.Puts.{put_then}
use Rattle.listing_bytes.proofs.Stored.{fits_first, fits_rest}
use Rattle.listing.proofs.frames.put_frame.Goals as goal

pub put_labelled-first-requires : goal.put_labelled-first-requires
unfolding frame_of
put_labelled-first-requires c =
    fits_first (labelled "(frame " c.args.tick) _ c.requires

pub put_labelled-second-requires : goal.put_labelled-second-requires
unfolding frame_of
put_labelled-second-requires c =
    fits_first (labelled " (node " c.args.node) _ (fits_rest c.put_labelled-first.ensures _ c.requires)

pub put_labelled-third-requires : goal.put_labelled-third-requires
unfolding frame_of
put_labelled-third-requires c =
    fits_first (labelled ") (bytes " c.args.used) _ (fits_rest c.put_labelled-second.ensures _ (fits_rest c.put_labelled-first.ensures _ c.requires))

pub put_word-requires : goal.put_word-requires
unfolding frame_of
put_word-requires c =
    fits_rest c.put_labelled-third.ensures (text "))\n") (fits_rest c.put_labelled-second.ensures _ (fits_rest c.put_labelled-first.ensures _ c.requires))

pub returns : goal.returns
unfolding frame_of
returns c = put_then c.put_labelled-first.ensures (put_then c.put_labelled-second.ensures (put_then c.put_labelled-third.ensures c.put_word.ensures))
