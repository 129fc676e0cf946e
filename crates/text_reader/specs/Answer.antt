-- What the answer of the plan reader stands for.
-- Assumes nothing.
use Rattle.std.specs.Prelude.{Result, Ok, Err}
use Rattle.model.specs.Text.{Reading, reads, not_read}
use Rattle.plan.specs.declared.Plan.{Plan}
use Rattle.plan.specs.Memory.{lines}
use Rattle.refusals.specs.declared.Refusal.{Refusal}
use Rattle.refusals.specs.Numbers.{number_of}

-- the lines of the plan, or the refusal's number
abbrev pub reading_of : Result Plan Refusal → Reading
reading_of (Ok p) = reads (lines p)
reading_of (Err r) = not_read (number_of r)
