pub mod Packing
pub mod Items
pub mod Pending
pub mod Clocks
pub mod NextSends
