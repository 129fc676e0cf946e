-- Laws of what a listing answers (Written).
pub mod Written
