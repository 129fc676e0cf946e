-- The `put` of an edge meets its contract: the labelled numbers are put, then the `when` and the end of the line.
use Rattle.model.specs.Text.{text, when_text}
use Rattle.plan.specs.Memory.{when_of}
use Rattle.text_lines.proofs.Puts.{put_then, counts_first, counts_rest}
use Rattle.text_lines.specs.Label.{labelled}
use Rattle.text_writer.proofs.EdgeParts.{edge_parts}
use Rattle.text_writer.proofs.edges.EdgeLine.put.Goals as goal

pub put_labelled-from-requires : goal.put_labelled-from-requires
put_labelled-from-requires c = counts_first (labelled "(edge (from " c.args.self.from) _ (rw edge_parts at c.requires)

pub put_labelled-to-requires : goal.put_labelled-to-requires
put_labelled-to-requires c =
    counts_first (labelled ") (to " c.args.self.to) _ (counts_rest c.put_labelled-from.ensures _ (rw edge_parts at c.requires))

pub put_labelled-bytes-requires : goal.put_labelled-bytes-requires
put_labelled-bytes-requires c =
    counts_first (labelled ") (bytes " c.args.self.bytes) _ (counts_rest c.put_labelled-to.ensures _ (counts_rest c.put_labelled-from.ensures _ (rw edge_parts at c.requires)))

pub put_word-before-requires : goal.put_word-before-requires
put_word-before-requires c =
    counts_first (text ") (when ") _ (counts_rest c.put_labelled-bytes.ensures _ (counts_rest c.put_labelled-to.ensures _ (counts_rest c.put_labelled-from.ensures _ (rw edge_parts at c.requires))))

pub put_when-end-requires : goal.put_when-end-requires
put_when-end-requires c =
    counts_first (when_text (when_of c.args.self.when)) _ (counts_rest c.put_word-before.ensures _ (counts_rest c.put_labelled-bytes.ensures _ (counts_rest c.put_labelled-to.ensures _ (counts_rest c.put_labelled-from.ensures _ (rw edge_parts at c.requires)))))

pub put_word-requires : goal.put_word-requires
put_word-requires c =
    counts_rest c.put_when-end.ensures (text "))\n") (counts_rest c.put_word-before.ensures _ (counts_rest c.put_labelled-bytes.ensures _ (counts_rest c.put_labelled-to.ensures _ (counts_rest c.put_labelled-from.ensures _ (rw edge_parts at c.requires)))))

pub returns : goal.returns
returns c =
    rw edge_parts (put_then c.put_labelled-from.ensures (put_then c.put_labelled-to.ensures (put_then c.put_labelled-bytes.ensures (put_then c.put_word-before.ensures (put_then c.put_when-end.ensures c.put_word.ensures)))))
