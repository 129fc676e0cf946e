-- `text_writer::put_when` meets its contract: the word, or the label, the number and the bracket.
use Rattle.model.specs.Text.{text, when_text}
use Rattle.text_lines.proofs.Puts.{put_then, counts_first, counts_rest}
use Rattle.text_lines.specs.Label.{labelled}
use Rattle.text_writer.proofs.EdgeParts.{true_parts, false_parts}
use Rattle.text_writer.proofs.edges.put_when.Goals as goal

pub put_word-requires : goal.put_word-requires
unfolding when_text
put_word-requires c =
    rw c.in-Always.is at c.requires

pub put_labelled-end-requires : goal.put_labelled-end-requires
put_labelled-end-requires c =
    counts_first (labelled "(true " c.in-True.k) _ (rw (c.in-True.is, true_parts) at c.requires)

pub put_word-requires-in-True : goal.put_word-requires-in-True
put_word-requires-in-True c =
    counts_rest c.put_labelled-end.ensures (text ")") (rw (c.in-True.is, true_parts) at c.requires)

pub put_labelled-end-requires-in-False : goal.put_labelled-end-requires-in-False
put_labelled-end-requires-in-False c =
    counts_first (labelled "(false " c.in-False.k) _ (rw (c.in-False.is, false_parts) at c.requires)

pub put_word-requires-in-False : goal.put_word-requires-in-False
put_word-requires-in-False c =
    counts_rest c.put_labelled-end-in-False.ensures (text ")") (rw (c.in-False.is, false_parts) at c.requires)

pub returns-in-Always : goal.returns-in-Always
unfolding when_text
returns-in-Always c =
    rw c.in-Always.is c.put_word.ensures

pub returns-in-True : goal.returns-in-True
returns-in-True c =
    rw (c.in-True.is, true_parts) (put_then c.put_labelled-end.ensures c.put_word-in-True.ensures)

pub returns-in-False : goal.returns-in-False
returns-in-False c =
    rw (c.in-False.is, false_parts) (put_then c.put_labelled-end-in-False.ensures c.put_word-in-False.ensures)
