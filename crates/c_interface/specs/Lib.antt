pub mod Tables
pub mod Listings
