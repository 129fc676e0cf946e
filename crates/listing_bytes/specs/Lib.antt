pub mod Fits
pub mod Going
pub mod Digits
