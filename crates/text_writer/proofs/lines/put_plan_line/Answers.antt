-- `text_writer::put_plan_line` meets its contract: the labelled numbers are put, then the end of the line by the `pick`.
use Rattle.model.specs.Plan.{by_urgency, by_number}
use Rattle.plan.specs.Memory.{lines}
use Rattle.text_lines.proofs.Puts.{put_then, counts_first, counts_rest}
use Rattle.text_lines.specs.Label.{labelled}
use Rattle.text_writer.proofs.LineParts.{pick_end, plan_parts}
use Rattle.text_writer.proofs.lines.put_plan_line.Goals as goal

pub put_labelled-byte-requires : goal.put_labelled-byte-requires
unfolding lines
put_labelled-byte-requires c =
    counts_first (labelled "(plan (byte " c.args.p.line.byte) _ (rw plan_parts at c.requires)

pub returns-in-Urgency : goal.returns-in-Urgency
unfolding lines
returns-in-Urgency c =
    rw (c.in-Urgency.is, plan_parts) (put_then c.put_labelled-byte.ensures (put_then c.put_labelled-head.ensures c.put_word.ensures))

pub returns-in-Number : goal.returns-in-Number
unfolding lines
returns-in-Number c =
    rw (c.in-Number.is, plan_parts) (put_then c.put_labelled-byte.ensures (put_then c.put_labelled-head.ensures c.put_word-in-Number.ensures))

pub put_labelled-head-requires : goal.put_labelled-head-requires
unfolding lines
put_labelled-head-requires c =
    counts_first (labelled ") (head " c.args.p.line.head) _ (counts_rest c.put_labelled-byte.ensures _ (rw plan_parts at c.requires))

pub put_word-requires : goal.put_word-requires
unfolding lines
put_word-requires c =
    record { fits = (counts_rest c.put_labelled-head.ensures (pick_end by_urgency) (counts_rest c.put_labelled-byte.ensures _ (rw (c.in-Urgency.is, plan_parts) at c.requires))).fits }

pub put_word-requires-in-Number : goal.put_word-requires-in-Number
unfolding lines
put_word-requires-in-Number c =
    record { fits = (counts_rest c.put_labelled-head.ensures (pick_end by_number) (counts_rest c.put_labelled-byte.ensures _ (rw (c.in-Number.is, plan_parts) at c.requires))).fits }
