-- Laws that the functions' proofs cite: WordSteps (a word in front of a text, and one turn of the loop over digits).
pub mod WordSteps
