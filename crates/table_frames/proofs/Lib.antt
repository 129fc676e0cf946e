-- Laws of the frame list: Collecting (frames put in order, entry by entry and row by row), Writing (frames written as
-- words), Numbers (frames as numbers, put in order, are the frames of the model), FramesOfModel (what the arrays hold
-- is the frame list of the planner's table).
pub mod Collecting
pub mod Writing
pub mod Numbers
pub mod FramesOfModel
