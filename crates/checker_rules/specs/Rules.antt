-- Refusals 15, 17 and 18 of one combination, in the words of arrays by row. `comes` has 0 where no entry of the row is
-- met, else the met entry's tick plus what the row lasts, plus 1; `span` has what the row lasts; `known` has the known
-- bits of the met entry's column. A clock is a tick plus 1. The other arrays are those of a plan's plan index.
-- Assumes nothing.
use Rattle.std.specs.Prelude.{◌≡◌, Bool, not, ◌&&◌, ◌||◌, List, ℕ, ◌-◌, ◌≤◌, ◌<◌, eqb, leb, get_or}
use Rattle.std.specs.Int.Bits.{bit_and}
use Rattle.plan_index.specs.declared.PlanIndex.{PlanIndex}
use Rattle.limits.specs.Limits.{NODES, ROUNDTICKS}
use Rattle.log_rows.specs.Rows.{Rows}
use Rattle.log_queries.specs.Reading.{placed_by, known_by}
use Rattle.bus_timetable.specs.Bus.{SCALE, beginning_at, reciprocal_of}
use Rattle.checker_rows.specs.MetArrays.{some, start_by}

-- 15: a met column has a condition that is not known by the row's tick; `conditionrow` is the row of condition 0
module _ (comes span known : List ℕ) (conditionrow conditions : ℕ) where
  unfoldable pub row_uses_unknown_by : ℕ → Bool
  row_uses_unknown_by r = placed_by comes r && not (eqb (bit_and (get_or known r 0) (known_by comes conditionrow conditions (start_by comes span r))) (get_or known r 0))

  unfoldable pub uses_unknown_by : ℕ → Bool
  uses_unknown_by rows = some row_uses_unknown_by 0 rows

-- 17: an item's tick is not a beginning of its sender's slot
unfoldable pub off_by : ℕ → List ℕ → List ℕ → List ℕ → List ℕ → ℕ → Bool
off_by round offset sender comes span r =
    placed_by comes r && not (eqb (beginning_at round (get_or offset (get_or sender r 0) 0) (start_by comes span r - 1)) (start_by comes span r - 1))

unfoldable pub off_slot_by : ℕ → ℕ → ℕ → List ℕ → List ℕ → List ℕ → List ℕ → Bool
off_slot_by processes rows round offset sender comes span = some (off_by round offset sender comes span) processes rows

-- 18: two processes overlap on a node
module _ (node comes span : List ℕ) where
  unfoldable pub together_by : ℕ → ℕ → Bool
  together_by i j =
      placed_by comes j
      && (eqb (get_or node j 0) (get_or node i 0) && not (leb (get_or comes j 0) (start_by comes span i) || leb (get_or comes i 0) (start_by comes span j)))

  unfoldable pub overlaps_by : ℕ → Bool
  overlaps_by i = placed_by comes i && some (together_by i) 0 i

unfoldable pub overlap_by : ℕ → List ℕ → List ℕ → List ℕ → Bool
overlap_by processes node comes span = some (overlaps_by node comes span) 0 processes

-- the same by a plan index and the rows of a combination
module _ (b : PlanIndex) (s : Rows) where
  abbrev pub row_unknown : List ℕ → ℕ → Bool
  row_unknown known = row_uses_unknown_by s.comes b.span known b.conditionrow b.conditions

  abbrev pub some_unknown : List ℕ → Bool
  some_unknown known = uses_unknown_by s.comes b.span known b.conditionrow b.conditions b.rows

  abbrev pub row_off : ℕ → Bool
  row_off = off_by b.round b.offset b.sender s.comes b.span

  abbrev pub some_off : Bool
  some_off = off_slot_by b.processes b.rows b.round b.offset b.sender s.comes b.span

  abbrev pub run_at_once : ℕ → ℕ → Bool
  run_at_once = together_by b.node s.comes b.span

  abbrev pub row_overlaps : ℕ → Bool
  row_overlaps = overlaps_by b.node s.comes b.span

  abbrev pub some_overlap : Bool
  some_overlap = overlap_by b.processes b.node s.comes b.span

-- a met row's slot lies in the round
pub record Slotted (b : PlanIndex) (comes : List ℕ) : Type 0 where
  pub round_one : 0 < b.round
  pub round_most : b.round ≤ ROUNDTICKS
  pub reciprocals : b.reciprocal ≡ reciprocal_of b.round
  pub offsets : (r : ℕ) → (get_or comes r 0 ≡ 0 → ⊥) → get_or b.offset (get_or b.sender r 0) 0 ≤ ROUNDTICKS

-- a beginning of node n's slot may be looked for from a tick on
pub record Searchable (b : PlanIndex) (n tick : ℕ) : Type 0 where
  pub node : n < NODES
  pub round_one : 0 < b.round
  pub round_most : b.round ≤ ROUNDTICKS
  pub reciprocals : b.reciprocal ≡ reciprocal_of b.round
  pub offset_most : get_or b.offset n 0 ≤ ROUNDTICKS
  pub tick_most : tick < SCALE
