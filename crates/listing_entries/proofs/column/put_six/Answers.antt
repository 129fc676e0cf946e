-- `listing_entries::put_six` meets its contract: the six conditions are stored one after another.
use Prim.Native.Nat.{◌/◌}
use Rattle.listing_count.specs.Parts.{value_at}
use Rattle.listing_count.proofs.Cases.{values_six}
use Rattle.text_lines.proofs.Puts.{put_then}
use Rattle.listing_bytes.proofs.Stored.{fits_first, fits_rest}
use Rattle.listing_entries.proofs.column.put_six.Goals as goal

pub put_value-one-requires : goal.put_value-one-requires
put_value-one-requires c =
    fits_first (value_at c.args.known c.args.values 0) _ (rw (values_six c.args.known c.args.values) at c.requires)

pub put_value-two-requires : goal.put_value-two-requires
put_value-two-requires c =
    fits_first (value_at (c.args.known / 2) (c.args.values / 2) 1) _ (fits_rest c.put_value-one.ensures _ (rw (values_six c.args.known c.args.values) at c.requires))

pub put_value-three-requires : goal.put_value-three-requires
put_value-three-requires c =
    fits_first (value_at (c.args.known / 4) (c.args.values / 4) 2) _ (fits_rest c.put_value-two.ensures _ (fits_rest c.put_value-one.ensures _ (rw (values_six c.args.known c.args.values) at c.requires)))

pub put_value-four-requires : goal.put_value-four-requires
put_value-four-requires c =
    fits_first (value_at (c.args.known / 8) (c.args.values / 8) 3) _ (fits_rest c.put_value-three.ensures _ (fits_rest c.put_value-two.ensures _ (fits_rest c.put_value-one.ensures _ (rw (values_six c.args.known c.args.values) at c.requires))))

pub put_value-five-requires : goal.put_value-five-requires
put_value-five-requires c =
    fits_first (value_at (c.args.known / 16) (c.args.values / 16) 4) _ (fits_rest c.put_value-four.ensures _ (fits_rest c.put_value-three.ensures _ (fits_rest c.put_value-two.ensures _ (fits_rest c.put_value-one.ensures _ (rw (values_six c.args.known c.args.values) at c.requires)))))

pub put_value-requires : goal.put_value-requires
put_value-requires c =
    fits_rest c.put_value-five.ensures _ (fits_rest c.put_value-four.ensures _ (fits_rest c.put_value-three.ensures _ (fits_rest c.put_value-two.ensures _ (fits_rest c.put_value-one.ensures _ (rw (values_six c.args.known c.args.values) at c.requires)))))

pub returns : goal.returns
returns c =
    rw (values_six c.args.known c.args.values)
    (put_then c.put_value-one.ensures
    (put_then c.put_value-two.ensures
    (put_then c.put_value-three.ensures
    (put_then c.put_value-four.ensures
    (put_then c.put_value-five.ensures
    c.put_value.ensures)))))
