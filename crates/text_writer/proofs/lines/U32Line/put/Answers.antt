-- The `put` of a condition meets its contract: the labelled number is put, then the end of the line.
use Rattle.model.specs.Text.{text}
use Rattle.text_lines.proofs.Puts.{put_then, counts_first, counts_rest}
use Rattle.text_lines.specs.Label.{labelled}
use Rattle.text_writer.proofs.LineParts.{condition_parts}
use Rattle.text_writer.proofs.lines.U32Line.put.Goals as goal

pub put_labelled-end-requires : goal.put_labelled-end-requires
put_labelled-end-requires c = counts_first (labelled "(condition (process " c.args.self) _ (rw condition_parts at c.requires)

pub put_word-requires : goal.put_word-requires
put_word-requires c =
    counts_rest c.put_labelled-end.ensures (text "))\n") (rw condition_parts at c.requires)

pub returns : goal.returns
returns c =
    rw condition_parts (put_then c.put_labelled-end.ensures c.put_word.ensures)
