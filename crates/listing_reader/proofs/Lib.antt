-- Laws of the passed lines: PassedSoFar (they are read node by node).
pub mod PassedSoFar
-- Laws of runs of lines: LinesSoFar (lines while they are read into words), RowsInOrder (the rows of entries),
-- RunsEnded (what is answered where they end).
pub mod LinesSoFar
pub mod RowsInOrder
pub mod RunsEnded
-- Laws of the whole listing: PartsRead (it is read by its parts), AnswersForPlan (what it is for a plan).
pub mod PartsRead
pub mod AnswersForPlan
