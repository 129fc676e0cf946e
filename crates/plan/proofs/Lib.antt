-- Laws of the plan in memory: HeldLines (a line in memory and in the model), Counted (the lines that a count names),
-- Taken (the parts of arrays that are lines), TestsOnLines (a plan and its lines, and what refusals 2 and 6 leave),
-- RefusalOrder (the first refusal settles the answer).
pub mod HeldLines
pub mod Counted
pub mod Taken
pub mod TestsOnLines
pub mod RefusalOrder
