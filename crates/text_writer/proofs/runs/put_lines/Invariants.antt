-- `text_writer::put_lines` meets its contract: before turn i the first i lines are put.
use Rattle.text_lines.specs.Put.{Put}
use Rattle.text_writer.proofs.TextRuns.{first_lines}
use Rattle.text_writer.proofs.runs.put_lines.Given as goal

abbrev pub invariant-loop-line : goal.invariant-loop-line
invariant-loop-line g l = Put l.initial.out l.out l.at l.end (first_lines g.L.Line.line l.lines l.line-index)
