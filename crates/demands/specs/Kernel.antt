-- A unit's kernel: the answers that it gets from calls of the lookup, in memory and from C.
-- Assumes nothing.
use Rattle.std.specs.Prelude.{ℕ, ◌-◌, ◌≤◌, ◌<◌, Option, None, Some, Ok, Err, List, eqb, ltb, length, if◌then◌else◌}
use Rattle.model.specs.Plan.{Lines}
use Rattle.model.specs.Lookup.{entry, none, refusal}
use Rattle.model.specs.Lookup as m
use Rattle.model.specs.Run.{Ask}
use Rattle.model.specs.Table.{entries_of}
use Rattle.model.specs.Firmware.{words_of}
use Rattle.plan.specs.declared.Plan.{Plan}
use Rattle.plan.specs.Memory.{lines}
use Rattle.refusals.specs.Numbers.{number_of}
use Rattle.demands.specs.Calls.{Outcome}
use Rattle.demands.specs.Calls as calls

-- the questions that a run of some lines with a table's words can ask: node, tick, conditions heard, their values, and
-- the number of the first entry to look at
abbrev pub Asked : Lines → List ℕ → (ℕ → ℕ → ℕ → ℕ → ℕ → Type 0) → Type 0
Asked p words Answered =
    (node tick heard values from : ℕ) → node < length p.slots → tick < 1000000000 → heard < 64 → values < 64 → from ≤ length (entries_of words) →
    Answered node tick heard values from

-- answers of `kernel::lookup`, each from a call of it
abbrev pub Answers : Type 0
Answers = ℕ → ℕ → ℕ → ℕ → ℕ → Outcome (Option ℕ)

abbrev pub ByLookup : Plan → List ℕ → Answers → Type 0
ByLookup p words answers = Asked (lines p) words (λ n t h v from. calls.Lookup p words n t h v from (answers n t h v from))

-- what an answer means
abbrev pub means : Outcome (Option ℕ) → m.Found
means (Ok (Some i)) = entry i
means (Ok None) = none
means (Err r) = refusal (number_of r)

abbrev pub asked : Answers → Ask
asked answers n t h v from = means (answers n t h v from)

-- answers of `riscadru_lookup`, each from a call of it with the plan's text and the table's bytes
abbrev pub Numbers : Type 0
Numbers = ℕ → ℕ → ℕ → ℕ → ℕ → ℕ

abbrev pub ByCLookup : List ℕ → List ℕ → Lines → Numbers → Type 0
ByCLookup text table p answers = Asked p (words_of table) (λ n t h v from. calls.CLookup text table n t h v from (answers n t h v from))

-- what a number means to the firmware: 2^64 - 1 is none, the 22 numbers below it are refusals, any other is an entry's
unfoldable pub number_means : ℕ → m.Found
number_means x = if eqb x 18446744073709551615 then none else if ltb 18446744073709551592 x then refusal (18446744073709551615 - x) else entry x

abbrev pub asked_numbers : Numbers → Ask
asked_numbers answers n t h v from = number_means (answers n t h v from)
