-- Arrays by row, worked out of a plan's columns and timetable number by number.
-- Assumes nothing.
use Rattle.std.specs.Prelude.{List, ℕ, ◌-◌, ltb, if◌then◌else◌}
use Rattle.limits.specs.Limits.{ROWS}
use Rattle.lists.specs.Lists.{fill}
use Rattle.plan.specs.Tests.{at}

-- the process that a row belongs to, what the row lasts and its bytes; `conditionrow` is the row of condition 0
abbrev pub process_of_row : List ℕ → List ℕ → ℕ → ℕ → ℕ → ℕ
process_of_row from decider processes conditionrow r = if ltb r processes then r else if ltb r conditionrow then at from (r - processes) else at decider (r - conditionrow)

abbrev pub span_of_row : List ℕ → List ℕ → ℕ → ℕ → ℕ → ℕ
span_of_row ticks lasts processes r node = if ltb r processes then at ticks r else at lasts node

abbrev pub size_of_row : List ℕ → ℕ → ℕ → ℕ → ℕ
size_of_row bytes processes conditionrow r = if ltb r conditionrow then at bytes (r - processes) else 1

-- the same by row, for the first rows
unfoldable pub senders_by_row : List ℕ → List ℕ → List ℕ → ℕ → ℕ → ℕ → List ℕ
senders_by_row from decider node processes conditionrow rows = fill ROWS (λ r. at node (process_of_row from decider processes conditionrow r)) rows

unfoldable pub spans_by_row : List ℕ → List ℕ → List ℕ → ℕ → ℕ → List ℕ
spans_by_row ticks lasts sender processes rows = fill ROWS (λ r. span_of_row ticks lasts processes r (at sender r)) rows

unfoldable pub sizes_by_row : List ℕ → ℕ → ℕ → ℕ → List ℕ
sizes_by_row bytes processes conditionrow rows = fill ROWS (size_of_row bytes processes conditionrow) rows
