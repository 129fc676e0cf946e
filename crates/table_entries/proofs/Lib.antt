-- Laws of putting in order: Putting (an element put among others, all of a list one after another, and maps that keep
-- the order), Multiples (the order by multiples of a unit), PutPlaces (an array with a number put among those of a
-- part).
pub mod Putting
pub mod Multiples
pub mod PutPlaces
-- Laws of the words: WordsWritten (the words of the entries stored one after another).
pub mod WordsWritten
-- Laws of the definitions in specs/: Gathering (the numbers of a row, put one combination after another), SmallNumbers
-- (which numbers stand there, and how large they are), RowsListed (all rows one after another), Keys (numbers in order
-- are entries in order), EntriesOfModel (the numbers and words are those of the model's table: `row_link`,
-- `entries_link`, `words_link`; `readable` for the arrays).
pub mod Gathering
pub mod SmallNumbers
pub mod RowsListed
pub mod Keys
pub mod EntriesOfModel
