-- A buffer after a call: the words written at the front, the rest as it was.
-- Assumes nothing.
use Rattle.std.specs.Prelude.{List, ◌++◌, length, drop}

unfoldable pub front : {A : Type 0} → List A → List A → List A
front words lent = words ++ drop (length words) lent
