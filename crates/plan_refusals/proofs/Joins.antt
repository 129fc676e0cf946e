-- The value of `a || b` as code finds it: that of the first test where it holds, or else that of the second.
-- Assumes nothing.
use mathlib.Core.Path.{◌≡◌, sym, ◌∙◌}
use mathlib.Core.Bool.{Bool, true, false, ◌||◌}

pub first_holds : {v r a : Bool} (b : Bool) → v ≡ r → r ≡ true → r ≡ a → v ≡ (a || b)
first_holds b e t q = rw (sym q, t) (e ∙ t)

pub second_tells : {v r a b : Bool} → v ≡ b → r ≡ false → r ≡ a → v ≡ (a || b)
second_tells e f q = rw (sym q, f) e
