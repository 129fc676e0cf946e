-- The kind of a `when` as a number, 0 always, 1 true, 2 false, and the condition that it names, 0 where it names none.
-- Assumes nothing.
use Rattle.std.specs.Prelude.{ℕ, true, false}
use Rattle.model.specs.Plan.{When, always, on}

unfoldable pub kind_of : When → ℕ
kind_of always = 0
kind_of (on true k) = 1
kind_of (on false k) = 2

unfoldable pub condition_of : When → ℕ
condition_of always = 0
condition_of (on v k) = k
