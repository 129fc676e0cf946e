pub mod Run
pub mod Answer
pub mod Parts
pub mod Chain
