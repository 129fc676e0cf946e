-- Laws of a table of many entries: ManyRefused (the answer to more entries than combinations times rows).
pub mod ManyRefused
-- Laws of a table lent as bytes: Copied (words that are copied are the table's).
pub mod Copied
-- Laws of a table checked for a text that is read: Checks (the number answered).
pub mod Checks
