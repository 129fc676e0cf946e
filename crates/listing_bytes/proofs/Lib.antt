-- Laws of what is stored: Halves (a word in two parts), Stored (texts stored one after another).
pub mod Halves
pub mod Stored
-- Laws of decimal digits: DigitGroups (two and four at a time).
pub mod DigitGroups
