-- The `put` of a slot meets its contract: the labelled numbers are put, then the end of the line.
use Rattle.model.specs.Text.{text}
use Rattle.text_lines.proofs.Puts.{put_then, counts_first, counts_rest}
use Rattle.text_lines.specs.Label.{labelled}
use Rattle.text_writer.proofs.LineParts.{slot_parts}
use Rattle.text_writer.proofs.lines.SlotLine.put.Goals as goal

pub put_labelled-node-requires : goal.put_labelled-node-requires
put_labelled-node-requires c = counts_first (labelled "(slot (node " c.args.self.node) _ (rw slot_parts at c.requires)

pub put_labelled-bytes-requires : goal.put_labelled-bytes-requires
put_labelled-bytes-requires c =
    counts_first (labelled ") (bytes " c.args.self.bytes) _ (counts_rest c.put_labelled-node.ensures _ (rw slot_parts at c.requires))

pub put_word-requires : goal.put_word-requires
put_word-requires c =
    counts_rest c.put_labelled-bytes.ensures (text "))\n") (counts_rest c.put_labelled-node.ensures _ (rw slot_parts at c.requires))

pub returns : goal.returns
returns c =
    rw slot_parts (put_then c.put_labelled-node.ensures (put_then c.put_labelled-bytes.ensures c.put_word.ensures))
