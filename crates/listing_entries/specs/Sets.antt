-- How many sets of known conditions a plan has, where it has at most six conditions.
-- Assumes nothing.
use Rattle.std.specs.Prelude.{ℕ, ◌^◌, ltb, if◌then◌else◌}
use Rattle.limits.specs.Limits.{CONDITIONS}

-- each condition is known or not; none where the plan has more than six conditions
unfoldable pub sets_of : ℕ → ℕ
sets_of conditions = if ltb CONDITIONS conditions then 0 else 2 ^ conditions
