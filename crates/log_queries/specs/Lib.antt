pub mod Reading
pub mod Holding
pub mod Hearing
pub mod Queries
