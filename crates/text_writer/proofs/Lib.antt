-- Laws of what is put: LineParts (each line as the labels, numbers and words that are put).
mod LineParts
-- Laws of what is put: EdgeParts (the line of an edge as the labels, numbers and words that are put).
mod EdgeParts
-- Laws of the text of a plan: TextRuns (lines of one kind), WholeText (the text as runs of lines, and when it is
-- written).
pub mod TextRuns
pub mod WholeText
-- Laws of what the plan writer writes: ReadBack (what is written is read).
pub mod ReadBack
