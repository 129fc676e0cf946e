pub mod Among
pub mod Words
pub mod Numbers
pub mod Listed
pub mod Logs
