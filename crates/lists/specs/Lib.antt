pub mod Lists
pub mod Ordered
pub mod Front
pub mod Cut
