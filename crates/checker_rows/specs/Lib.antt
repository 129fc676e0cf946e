pub mod RowOrder
pub mod Due
pub mod MetArrays
pub mod MetRows
