-- Laws of loops: ChainSoFar (lines that a reader gives one after another, while they are read), PartsSoFar (an input up
-- to its first empty line).
pub mod ChainSoFar
pub mod PartsSoFar
-- Laws that the functions' proofs cite: RunsRead (such lines are what the grammar reads), Answers (the answer for a
-- whole text). And for the crates above, ReadCases (what the reader's answer tells of a text).
pub mod Answers
pub mod ReadCases
pub mod RunsRead
