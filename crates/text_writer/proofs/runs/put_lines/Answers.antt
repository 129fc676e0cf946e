-- `text_writer::put_lines` meets its contract: before turn i the first i lines are put.
use Rattle.text_writer.proofs.TextRuns.{counts_line, put_line}
use Rattle.text_writer.proofs.runs.put_lines.Goals as goal

pub put-end-requires : goal.put-end-requires
put-end-requires g c =
    let l = c.loop-line in
    counts_line g.L.Line.line c.args.lines.now l.line-index c.line-item.result c.loop-line-test.true c.line-item.is l.invariant c.requires

pub loop-line-preserved : goal.loop-line-preserved
loop-line-preserved g c =
    let l = c.loop-line in
    put_line g.L.Line.line c.args.lines.now l.line-index c.line-item.result c.loop-line-test.true c.line-item.is l.invariant c.put-end.ensures
