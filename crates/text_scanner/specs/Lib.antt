pub mod Place
pub mod LineEnds
pub mod Lines
