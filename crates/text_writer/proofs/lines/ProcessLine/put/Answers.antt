-- The `put` of a process meets its contract: the labelled numbers are put, then the end of the line by the `waits`.
use Rattle.model.specs.Plan.{waits_all, waits_any}
use Rattle.text_lines.proofs.Puts.{put_then, counts_first, counts_rest}
use Rattle.text_lines.specs.Label.{labelled}
use Rattle.text_writer.proofs.LineParts.{waits_end, process_parts}
use Rattle.text_writer.proofs.lines.ProcessLine.put.Goals as goal

pub put_labelled-node-requires : goal.put_labelled-node-requires
put_labelled-node-requires c = counts_first (labelled "(process (node " c.args.self.node) _ (rw process_parts at c.requires)

pub put_labelled-ticks-requires : goal.put_labelled-ticks-requires
put_labelled-ticks-requires c =
    counts_first (labelled ") (ticks " c.args.self.ticks) _ (counts_rest c.put_labelled-node.ensures _ (rw process_parts at c.requires))

pub put_word-requires : goal.put_word-requires
put_word-requires c =
    record { fits = (counts_rest c.put_labelled-ticks.ensures (waits_end waits_all) (counts_rest c.put_labelled-node.ensures _ (rw (c.in-All.is, process_parts) at c.requires))).fits }

pub put_word-requires-in-Any : goal.put_word-requires-in-Any
put_word-requires-in-Any c =
    record { fits = (counts_rest c.put_labelled-ticks.ensures (waits_end waits_any) (counts_rest c.put_labelled-node.ensures _ (rw (c.in-Any.is, process_parts) at c.requires))).fits }

pub returns-in-All : goal.returns-in-All
returns-in-All c =
    rw (c.in-All.is, process_parts) (put_then c.put_labelled-node.ensures (put_then c.put_labelled-ticks.ensures c.put_word.ensures))

pub returns-in-Any : goal.returns-in-Any
returns-in-Any c =
    rw (c.in-Any.is, process_parts) (put_then c.put_labelled-node.ensures (put_then c.put_labelled-ticks.ensures c.put_word-in-Any.ensures))
