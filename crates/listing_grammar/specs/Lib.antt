pub mod Parse
pub mod Cases
