pub mod Prefix
pub mod Stored
