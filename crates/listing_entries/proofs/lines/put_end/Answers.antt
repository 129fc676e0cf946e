-- `listing_entries::put_end` meets its contract: the tick is stored, then the place of an edge or a condition, then the
-- end of the line.
use native.Mathlib.Omega.{arith}
use Rattle.model.specs.Text.{text}
use Rattle.text_lines.specs.Label.{labelled}
use Rattle.text_lines.proofs.Puts.{put_then}
use Rattle.listing_bytes.proofs.Stored.{fits_first, fits_rest}
use Rattle.listing_entries.proofs.LineEnds.{fits_most, start_most, item_most, end_start, end_item}
use Rattle.listing_entries.proofs.lines.put_end.Goals as goal

pub put_tick-end-requires : goal.put_tick-end-requires
put_tick-end-requires c =
    fits_first (labelled ") (at " c.args.tick) (text "))\n") (fits_most c.requires (start_most c.args.tick (omega arith)))

pub put_word-requires : goal.put_word-requires
put_word-requires c =
    fits_rest c.put_tick-end.ensures (text "))\n") (fits_most c.requires (start_most c.args.tick (omega arith)))

pub returns-then-row-processes : goal.returns-then-row-processes
returns-then-row-processes c =
    rw (end_start c.args.processes c.args.row c.args.tick c.args.place (omega arith)) (put_then c.put_tick-end.ensures c.put_word.ensures)

pub put_labelled-last-requires : goal.put_labelled-last-requires
put_labelled-last-requires c =
    fits_first (labelled ") (place " c.args.place) (text "))\n") (fits_rest c.put_tick-end.ensures _ (fits_most c.requires (item_most c.args.tick c.args.place (omega arith) (omega arith))))

pub put_word-requires-2 : goal.put_word-requires-2
put_word-requires-2 c =
    fits_rest c.put_labelled-last.ensures (text "))\n") (fits_rest c.put_tick-end.ensures _ (fits_most c.requires (item_most c.args.tick c.args.place (omega arith) (omega arith))))

pub returns : goal.returns
returns c =
    rw (end_item c.args.processes c.args.row c.args.tick c.args.place (omega arith)) (put_then c.put_tick-end.ensures (put_then c.put_labelled-last.ensures c.put_word-2.ensures))
