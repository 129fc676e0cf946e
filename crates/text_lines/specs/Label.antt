-- A label and the number after it, as they are put.
-- Assumes nothing.
use Rattle.std.specs.Prelude.{ℕ, List, ◌++◌}
use Prim.Native.String.{String}
use Rattle.model.specs.Text.{text, decimal}

abbrev pub labelled : String → ℕ → List ℕ
labelled label n = text label ++ decimal n
