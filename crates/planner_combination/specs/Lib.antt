pub mod Events
pub mod Ending
pub mod Kept
pub mod Standing
pub mod Planning
