-- `listing_entries::put_line` meets its contract: its beginning is stored, then the conditions, then its end.
use Prim.Native.Nat.{◌+◌}
use lib.ListN.{get_or}
use Rattle.listing_count.specs.Parts.{values_from}
use Rattle.text_lines.proofs.Puts.{put_then}
use Rattle.listing_bytes.proofs.Stored.{fits_first, fits_rest}
use Rattle.listing_entries.proofs.lines.put_line.Goals as goal

pub put_long-column-requires : goal.put_long-column-requires
put_long-column-requires c =
    (c.requires.0, fits_first c.args.begin.now _ c.requires.4)

pub put_values-end-requires : goal.put_values-end-requires
put_values-end-requires c =
    let ws = c.args.table.now in
    (c.requires.2, fits_first (values_from c.args.conditions (get_or ws (c.args.i + 1) 0) (get_or ws (c.args.i + 2) 0) 0) c.args.last.now (fits_rest c.put_long-column.ensures _ c.requires.4))

pub put_long-requires : goal.put_long-requires
put_long-requires c =
    (c.requires.1, fits_rest c.put_values-end.ensures c.args.last.now (fits_rest c.put_long-column.ensures _ c.requires.4))

pub returns : goal.returns
returns c = put_then c.put_long-column.ensures (put_then c.put_values-end.ensures c.put_long.ensures)
