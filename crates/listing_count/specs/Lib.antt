pub mod Parts
pub mod Ample
