pub mod Copy
pub mod Listing
