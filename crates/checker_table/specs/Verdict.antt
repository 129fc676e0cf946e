-- What the checker answers.
-- Assumes nothing.
use Rattle.std.specs.Prelude.{ℕ, Result, Ok, Err, eqb, if◌then◌else◌}
use Rattle.model.specs.Refusals.{Refusal, nothing, refused}
use Rattle.checker_table.specs.Finding.{Finding}

-- the answer in memory, with the number of what refuses
unfoldable pub answer_of : Refusal → Result (Unit {0}) ℕ
answer_of nothing = Ok tt
answer_of (refused n) = Err n

-- the answer to what is found, given the stated delay
unfoldable pub verdict_by : Finding → ℕ → Result (Unit {0}) ℕ
verdict_by found stated = if eqb found.first 20 then (if eqb stated found.delay then Ok tt else Err 20) else Err found.first
