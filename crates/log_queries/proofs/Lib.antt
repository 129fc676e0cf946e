-- Laws of a log in memory: ArrayParts (tests over a part of an array), ReadyOfModel (what the arrays say is what the
-- model says), Running (the same of which processes may run), Held (arrays that hold a log, and one more row of it),
-- Placing (the rows placed and the starts and items of the log), Readings (the conditions known, and the last end of a
-- process), Clearing (the numbers of `run` set to 0), Bits (a truth value as a number).
pub mod ArrayParts
pub mod ReadyOfModel
pub mod Running
pub mod Held
pub mod Placing
pub mod Readings
pub mod Clearing
pub mod Bits
