-- Laws of the row query: Entries (the entries of a table by their numbers), Rows (the turns of the two searches, and
-- the part that they find).
pub mod Entries
pub mod Rows
