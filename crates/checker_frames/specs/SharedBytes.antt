-- Refusal 19 of one combination, in the words of arrays by row. `comes` has 0 where no entry of the row is met, else
-- the met entry's tick plus what the row lasts, plus 1; `span` has what the row lasts; `place` has the met entry's
-- place in the frame. A clock is a tick plus 1. The other arrays are those of a plan's plan index.
-- Assumes nothing.
use Rattle.std.specs.Prelude.{◌≡◌, Bool, not, ◌&&◌, ◌||◌, List, ℕ, ◌+◌, ◌<◌, eqb, leb, ltb, get_or}
use Rattle.plan_index.specs.declared.PlanIndex.{PlanIndex}
use Rattle.log_rows.specs.Rows.{Rows}
use Rattle.log_queries.specs.Reading.{placed_by}
use Rattle.checker_rows.specs.MetArrays.{some, start_by}

-- 19: an item passes its slot's last byte, or shares a byte with another of its tick and node
unfoldable pub passes_by : List ℕ → List ℕ → List ℕ → List ℕ → ℕ → Bool
passes_by rooms sender size place r = ltb (get_or rooms (get_or sender r 0) 0) (get_or place r 0 + get_or size r 0)

unfoldable pub lie_by : List ℕ → List ℕ → List ℕ → List ℕ → List ℕ → ℕ → ℕ → Bool
lie_by sender size place comes span i j =
    placed_by comes j
    && (eqb (start_by comes span j) (start_by comes span i)
    && (eqb (get_or sender j 0) (get_or sender i 0)
    && not (leb (get_or place j 0 + get_or size j 0) (get_or place i 0) || leb (get_or place i 0 + get_or size i 0) (get_or place j 0))))

unfoldable pub shares_by : ℕ → List ℕ → List ℕ → List ℕ → List ℕ → List ℕ → List ℕ → ℕ → Bool
shares_by processes rooms sender size place comes span i =
    placed_by comes i && (passes_by rooms sender size place i || some (lie_by sender size place comes span i) processes i)

unfoldable pub share_by : ℕ → ℕ → List ℕ → List ℕ → List ℕ → List ℕ → List ℕ → List ℕ → Bool
share_by processes rows rooms sender size place comes span = some (shares_by processes rooms sender size place comes span) processes rows

-- the same by a plan index and the rows of a combination
module _ (b : PlanIndex) (s : Rows) where
  abbrev pub row_passes : ℕ → Bool
  row_passes = passes_by b.rooms b.sender b.size s.place

  abbrev pub rows_lie : ℕ → ℕ → Bool
  rows_lie = lie_by b.sender b.size s.place s.comes b.span

  abbrev pub row_shares : ℕ → Bool
  row_shares = shares_by b.processes b.rooms b.sender b.size s.place s.comes b.span

  abbrev pub some_share : Bool
  some_share = share_by b.processes b.rows b.rooms b.sender b.size s.place s.comes b.span

-- a met row begins where a frame can be
pub record Sized (comes place : List ℕ) : Type 0 where
  pub places : (r : ℕ) → (get_or comes r 0 ≡ 0 → ⊥) → get_or place r 0 < 64
