pub mod FirstRefusal
pub mod Finding
pub mod Verdict
pub mod Combinations
