-- Laws of columns: SetCounts (how many sets of known conditions a plan has).
pub mod SetCounts
-- Laws of lines: LineEnds (how the lines of a row begin and end).
pub mod LineEnds
-- Laws of runs: Leading (how many entries a run has), RunLines (what their lines are, and the next line of one).
pub mod Leading
pub mod RunLines
