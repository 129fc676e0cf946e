-- `listing_entries::put_value` meets its contract: the two bits tell which text is stored.
use Rattle.model.specs.Text.{text}
use Rattle.text_lines.specs.Label.{labelled}
use Rattle.listing_count.proofs.Cases.{value_none, value_false, value_true}
use Rattle.text_lines.proofs.Puts.{put_none, put_then}
use Rattle.listing_bytes.proofs.Stored.{fits_first, fits_rest}
use Rattle.listing_entries.proofs.column.put_value.Goals as goal

pub returns-then-known-eq0 : goal.returns-then-known-eq0
returns-then-known-eq0 c =
    rw (value_none c.args.known c.args.values c.args.k c.if-known-eq0.true) (put_none _ _)

pub put_labelled-number-requires : goal.put_labelled-number-requires
put_labelled-number-requires c =
    fits_first (labelled " (false " c.args.k) (text ")") (rw (value_false c.args.known c.args.values c.args.k c.if-known-eq0.false c.if-values-eq0.true) at c.requires)

pub put_word-requires : goal.put_word-requires
put_word-requires c =
    fits_rest c.put_labelled-number.ensures (text ")") (rw (value_false c.args.known c.args.values c.args.k c.if-known-eq0.false c.if-values-eq0.true) at c.requires)

pub returns-then-values-eq0 : goal.returns-then-values-eq0
returns-then-values-eq0 c =
    rw (value_false c.args.known c.args.values c.args.k c.if-known-eq0.false c.if-values-eq0.true) (put_then c.put_labelled-number.ensures c.put_word.ensures)

pub put_labelled-number-requires-2 : goal.put_labelled-number-requires-2
put_labelled-number-requires-2 c =
    fits_first (labelled " (true " c.args.k) (text ")") (rw (value_true c.args.known c.args.values c.args.k c.if-known-eq0.false c.if-values-eq0.false) at c.requires)

pub put_word-requires-2 : goal.put_word-requires-2
put_word-requires-2 c =
    fits_rest c.put_labelled-number-2.ensures (text ")") (rw (value_true c.args.known c.args.values c.args.k c.if-known-eq0.false c.if-values-eq0.false) at c.requires)

pub returns : goal.returns
returns c =
    rw (value_true c.args.known c.args.values c.args.k c.if-known-eq0.false c.if-values-eq0.false) (put_then c.put_labelled-number-2.ensures c.put_word-2.ensures)
