pub mod Answer
pub mod Label
pub mod Line
pub mod Put
