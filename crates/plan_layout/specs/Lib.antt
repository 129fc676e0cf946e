pub mod Columns
pub mod LineArrays
pub mod NodeArrays
pub mod RowArrays
pub mod Unmet
pub mod Layout
pub mod Indexed
pub mod Laying
