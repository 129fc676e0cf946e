-- When part of a text is stored from a place on, and the rest is still to come.
-- Assumes nothing.
use Rattle.std.specs.Prelude.{ℕ, ◌≡◌, List, ◌++◌}
use Rattle.text_lines.specs.Put.{Put}

-- stored so far from `at` to `end`, and nothing else, is what the rest makes the whole
pub record Going (l m : List ℕ) (at end : ℕ) (whole rest : List ℕ) : Type 0 where
  pub done : List ℕ
  pub parts : whole ≡ done ++ rest
  pub stored : Put l m at end done
