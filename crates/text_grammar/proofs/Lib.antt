-- Laws of the reader in specs/: Parsed (its answers), Numbers (decimal digits), Inverse (a reader that takes exactly
-- the printed forms), Forms (each kind of line), Runs (lines of one kind), Whole (the text), Bounds (what refusals 2 to
-- 9 leave), Answers (one for each text), Headless (a plan line with no head is not of the form).
pub mod Parsed
pub mod Numbers
pub mod Inverse
pub mod Forms
pub mod Runs
pub mod Whole
pub mod Bounds
pub mod Answers
pub mod Headless
