-- Laws of words and bytes: Reading (the words that bytes hold), Entry (an entry that is copied is the table's), Writing
-- (the bytes of words), Back (written words are read back), Room (how many words the array for a table has).
pub mod Reading
pub mod Entry
pub mod Writing
pub mod Back
pub mod Room
