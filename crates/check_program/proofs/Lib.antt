-- Laws that the functions' proofs cite: Printing (what is printed for an answer, and that it fits the lent bytes),
-- InputParts (the two parts of an input).
pub mod Printing
pub mod InputParts
