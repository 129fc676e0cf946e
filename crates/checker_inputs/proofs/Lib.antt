-- InputsOfModel (what `too_early` answers is what refusal 16 says).
pub mod InputsOfModel
