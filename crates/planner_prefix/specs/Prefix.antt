-- What a combination takes over from an earlier one: the rows placed before a clock, by node the last end of a process
-- among them, and the counts noted then.
-- Assumes nothing.
use Rattle.std.specs.Prelude.{ℕ, zero, suc, ◌+◌, ◌-◌, ◌*◌, ◌/◌, ◌%◌, ◌^◌, ◌<◌, max, ◌≡◌, List, eqb, leb, ltb, get_or, set, replicate, if◌then◌else◌}
use Rattle.limits.specs.Limits.{ROWS, NEVER}
use Rattle.lists.specs.Lists.{fill}
use Rattle.table_entries.specs.Logs.{block}
use Rattle.plan_index.specs.declared.PlanIndex.{PlanIndex}
use Rattle.log_rows.specs.Rows.{Rows, no_rows, with_comes, with_place}
use Rattle.planner_nodes.specs.Nodes.{Nodes, no_nodes, with_busy, with_passed, with_noted}
use Rattle.planner_prefix.specs.declared.prefix.Source.{Source}

-- a row that is over at clock x and lasts so many ticks, where it was placed before clock u, 0 otherwise
abbrev pub cut_one : ℕ → ℕ → ℕ → ℕ
cut_one x lasts u = if ltb (x - lasts) u then x else 0

-- the same by row
unfoldable pub cut_at : List ℕ → List ℕ → ℕ → ℕ → ℕ
cut_at rows lasting u r = cut_one (get_or rows r 0) (get_or lasting r 0) u

unfoldable pub cut : List ℕ → List ℕ → ℕ → List ℕ
cut rows lasting u = fill ROWS (cut_at rows lasting u) ROWS

-- by node, the last end of a process of the first n
unfoldable pub ends_below : List ℕ → List ℕ → ℕ → List ℕ
ends_below node rows zero = replicate 8 0
ends_below node rows (suc i) =
    let before : List ℕ = ends_below node rows i in
    set before (get_or node i 0) (max (get_or before (get_or node i 0) 0) (get_or rows i 0))

-- a value arrives at clock x, or never
abbrev pub no_value : ℕ
no_value = NEVER

unfoldable pub arrival : ℕ → ℕ
arrival x = if eqb x 0 then no_value else x

-- Of a source and the combination without condition k, the one whose value arrives later. `power` is 2 to the k;
-- `value` is 0 where k is false already.
unfoldable pub later_by : List ℕ → ℕ → ℕ → ℕ → ℕ → ℕ → Source → Source
later_by comes conditionrow c k power value best =
    let clock : ℕ = arrival (get_or comes ((c - power) * ROWS + conditionrow + k) 0) in
    if eqb value 0 then best else if leb clock best.clock then best else record { from = c - power; condition = k; clock = clock }

-- Of the combinations that lack one condition of c's, one of the first k, that whose value arrives last there, the
-- lowest condition where several do; the clock is 0 where c has none of them.
unfoldable pub source_among : List ℕ → ℕ → ℕ → ℕ → Source
source_among comes conditionrow c zero = record { from = 0; condition = 0; clock = 0 }
source_among comes conditionrow c (suc k) = later_by comes conditionrow c k (2 ^ k) (c / 2 ^ k % 2) (source_among comes conditionrow c k)

-- Combination d's notes are 56 numbers: the counts by node as each condition's value arrives, and the last ones from
-- place 48 on.
unfoldable pub counts_from : List ℕ → ℕ → ℕ → List ℕ
counts_from notes at slots = fill 8 (λ n. get_or notes (at + n) 0) slots

unfoldable pub notes_from : List ℕ → ℕ → List ℕ
notes_from notes at = fill 48 (λ i. get_or notes (at + i) 0) 48

-- where the counts of a source stand
unfoldable pub counts_at : Source → ℕ
counts_at s = if eqb s.clock no_value then s.from * 56 + 48 else s.from * 56 + s.condition * 8

-- What is taken over from a source: what is placed there before a clock, and what was noted then.
pub record TakenFrom (source : Source) (processes slots clock : ℕ) (node lasting comes place notes rows places ends counts noted : List ℕ) : Type 0 where
  pub until : clock ≡ source.clock
  pub rows_cut : rows ≡ cut (block comes source.from) lasting source.clock
  pub places_whole : places ≡ block place source.from
  pub ends_last : ends ≡ ends_below node rows processes
  pub counts_then : counts ≡ counts_from notes (counts_at source) slots
  pub notes_then : noted ≡ notes_from notes (source.from * 56)

-- Combination 0 begins from nothing at clock 1, each other one takes over from its source.
pub data PrefixShared (processes conditionrow conditions slots c clock : ℕ) (node lasting comes place notes rows places ends counts noted : List ℕ) : Type 0 where
  begins : c ≡ 0 → clock ≡ 1 → rows ≡ replicate ROWS 0 → places ≡ replicate ROWS 0 → ends ≡ replicate 8 0 → counts ≡ replicate 8 0 → noted ≡ replicate 48 0 →
      PrefixShared processes conditionrow conditions slots c clock node lasting comes place notes rows places ends counts noted
  goes_on : 0 < c → TakenFrom (source_among comes conditionrow c conditions) processes slots clock node lasting comes place notes rows places ends counts noted →
      PrefixShared processes conditionrow conditions slots c clock node lasting comes place notes rows places ends counts noted

-- The same of rows and nodes that were empty before: nothing else is in them.
pub record Shared (b : PlanIndex) (c clock : ℕ) (comes place notes : List ℕ) (s : Rows) (ns : Nodes) : Type 0 where
  pub prefix : PrefixShared b.processes b.conditionrow b.conditions b.slots c clock b.node b.span comes place notes s.comes s.place ns.busy ns.passed ns.noted
  pub rows_rest : s ≡ with_place s.place (with_comes s.comes no_rows)
  pub nodes_rest : ns ≡ with_noted ns.noted (with_passed ns.passed (with_busy ns.busy no_nodes))
