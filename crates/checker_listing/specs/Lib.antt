pub mod FrameList
pub mod Filling
pub mod Stated
pub mod Listing
