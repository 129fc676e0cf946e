-- A truth value as a number, as a conversion gives it.
-- Assumes nothing.
use Rattle.std.specs.Int.{from_bool}
use mathlib.Core.Path.{◌≡◌, refl}
use mathlib.Core.Bool.{Bool, true, false}
use Rattle.log_queries.specs.Reading.{bit}

pub bit_from : (b : Bool) → from_bool b ≡ bit b
bit_from true = refl
bit_from false = refl
