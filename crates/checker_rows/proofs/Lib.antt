-- Laws of the rows that are due: DueMade (the array of them put together, and the rows made over one by one).
pub mod DueMade
-- RangeLoops (a test over some numbers, one by one), LogRows (a test over a log is a test over the rows of the arrays
-- that hold it), MetPlan (a plan and the entries that a combination meets, in arrays), MetBounds (what refusal 13
-- leaves of these).
pub mod RangeLoops
pub mod LogRows
pub mod MetPlan
pub mod MetBounds
-- Laws of the definitions in specs/: TableWords (a table's entries one by one), ColumnBits (when an entry's column is
-- met), RowStores (what stands in an array by row), DueOfModel (the array of due rows says what is due), MetOfModel
-- (what the arrays say of a combination is what the model says).
pub mod TableWords
pub mod ColumnBits
pub mod RowStores
pub mod DueOfModel
pub mod MetOfModel
