-- Laws of answers: Told (an answer by what holds).
pub mod Told
-- Laws of frames in order: TickTurns (one more frame in order, one half of the frames, and the one frame of a tick),
-- Marking (what stands in the marks after an item), Going (what the first entries leave of it).
pub mod TickTurns
pub mod Marking
pub mod Going
-- Laws of words: WordPlaces (entries and frames by their numbers, and frames in order).
pub mod WordPlaces
-- Laws of refusal 22: GivenFrames (frames that fit are those that the entries give), SameCounts (counts that are
-- equal), StatedAnswers (the answer by its tests).
pub mod GivenFrames
pub mod SameCounts
pub mod StatedAnswers
-- Laws of a listing text's answer: ListingAnswers (by what the reader answers).
pub mod ListingAnswers
