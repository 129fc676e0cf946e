-- Laws of the functions that other software calls: Tables (a text read and planned into lent bytes).
pub mod Tables
