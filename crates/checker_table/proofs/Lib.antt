-- Laws of the first sentence: FirstByTests (which it is, by which of the tests hold).
pub mod FirstByTests
-- Laws of the checker's answers: FirstAnswers (where the plan, 12 or 13 settles them).
pub mod FirstAnswers
-- Laws of the definitions in specs/: Combined (what is found in one combination), Least (sentences tried combination by
-- combination give the refusal of sentences each tried over all combinations before the next), CombinationOfModel (what
-- is found in one combination is what the model says of it).
pub mod Combined
pub mod Least
pub mod CombinationOfModel
-- Laws of the checker: CheckerOfModel (the answer is the model's), AcceptedSound (what the answers mean).
pub mod CheckerOfModel
pub mod AcceptedSound
