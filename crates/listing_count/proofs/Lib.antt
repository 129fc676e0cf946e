-- Laws of the lines of a listing: DigitCounts (how many digits a number has), Words (the entries and frames of words),
-- Cases (which text each test gives), Lengths (how long each line is), Most (how long they are at most), Lines (the
-- lines are those of document 01).
pub mod DigitCounts
pub mod Words
pub mod Cases
pub mod Lengths
pub mod Most
pub mod Lines
-- Laws of what is counted: Leaving (texts taken from a room one after another), Enough (bytes that suffice for any
-- listing).
mod Leaving
mod Enough
