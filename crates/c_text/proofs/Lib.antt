-- Laws of a text that is read and written again: Copying (the number answered, and the lent bytes).
pub mod Copying
