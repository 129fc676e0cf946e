pub mod Slot
pub mod Sending
