pub mod Entries
pub mod Part
pub mod RowRange
