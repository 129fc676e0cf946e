pub mod Groups
pub mod Urgency
pub mod Weights
pub mod Orders
