-- Joins (the value of `a || b`). And for the crates above: Accepted (what is read as some lines).
pub mod Joins
pub mod Accepted
