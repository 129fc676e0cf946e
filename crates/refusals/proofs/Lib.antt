-- Laws of answers with refusals, for the crates above: Numbered (what an answer is by its number).
pub mod Numbered
