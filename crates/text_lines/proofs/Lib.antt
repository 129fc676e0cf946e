-- Laws of puts (Puts), and of the fields of a line (Fields).
pub mod Fields
pub mod Puts
