-- The number in which other software is answered.
-- Assumes nothing.
use Rattle.std.specs.Prelude.{ℕ, ◌-◌, Result, Ok, Err, length}
use Rattle.model.specs.Text.{wrote, not_written}
use Rattle.model.specs.Text as m

-- a number as it stands; refusal n is n below the greatest
abbrev pub answer_number : Result ℕ ℕ → ℕ
answer_number (Ok n) = n
answer_number (Err n) = 18446744073709551615 - n

-- for what was written to lent bytes: how many bytes it has, or the refusal
unfoldable pub written_number : m.Written → ℕ
written_number (wrote bytes) = length bytes
written_number (not_written n) = 18446744073709551615 - n
