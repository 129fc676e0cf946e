pub mod Memory
pub mod Bounds
pub mod Numbers
pub mod Tests
pub mod Kinds
