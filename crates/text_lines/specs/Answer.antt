-- What the answer of a call that writes a text to lent bytes stands for.
-- Assumes nothing.
use Rattle.std.specs.Prelude.{ℕ, Result, Ok, Err, length}
use Rattle.model.specs.Text.{wrote, not_written}
use Rattle.model.specs.Text as m

-- the count of the bytes written, or the number of the refusal
abbrev pub answer_of : m.Written → Result ℕ ℕ
answer_of (wrote bytes) = Ok (length bytes)
answer_of (not_written n) = Err n
