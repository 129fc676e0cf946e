pub mod Starts
pub mod Busy
pub mod Unchanged
pub mod ChangedNodes
pub mod Dispatching
