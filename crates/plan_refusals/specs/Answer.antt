-- The refusal of document 01 that an answer stands for.
-- Assumes nothing.
use Rattle.std.specs.Prelude.{Result, Ok, Err}
use Rattle.model.specs.Refusals.{nothing, refused}
use Rattle.model.specs.Refusals as m
use Rattle.refusals.specs.declared.Refusal.{Refusal}
use Rattle.refusals.specs.Numbers.{number_of}

abbrev pub refusal_of : {A : Type 0} → Result A Refusal → m.Refusal
refusal_of (Ok x) = nothing
refusal_of (Err r) = refused (number_of r)
