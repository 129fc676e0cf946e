-- `listing::put_refusal` meets its contract: the labelled number is put, then the end of the line.
use native.Mathlib.Omega.{arith}
use Rattle.model.specs.Text.{text}
use Rattle.text_lines.specs.Label.{labelled}
use Rattle.listing_count.proofs.Lines.{refused_parts}
use Rattle.text_lines.proofs.Puts.{put_then}
use Rattle.listing_bytes.proofs.Stored.{fits_first, fits_rest}
use Rattle.listing.proofs.writer.put_refusal.Goals as goal

pub put_labelled-end-requires : goal.put_labelled-end-requires
put_labelled-end-requires c =
    let f = fits_first (labelled "(refused " c.args.number) (text ")\n") (rw (refused_parts c.args.number) at c.requires) in
    record { fits = omega (arith, f.within) }

pub put_word-requires : goal.put_word-requires
put_word-requires c =
    fits_rest c.put_labelled-end.ensures (text ")\n") (rw (refused_parts c.args.number) at c.requires)

pub returns : goal.returns
returns c =
    rw (refused_parts c.args.number) (put_then c.put_labelled-end.ensures c.put_word.ensures)
