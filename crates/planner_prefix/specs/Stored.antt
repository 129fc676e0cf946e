-- What the arrays hold once the plan of a combination is stored: combination c's row r stands at place c * ROWS + r,
-- what was noted for it from place c * 56 on.
-- Assumes nothing.
use Rattle.std.specs.Prelude.{ℕ, zero, suc, ◌+◌, ◌*◌, ◌≡◌, List, get_or, set}
use Rattle.std.proofs.lemmas.List.Edits.{sets}
use Rattle.limits.specs.Limits.{ROWS}
use Rattle.log_rows.specs.Rows.{Rows}
use Rattle.planner_nodes.specs.Nodes.{Nodes}

-- counts added to totals, for the first n nodes
unfoldable pub added : List ℕ → List ℕ → ℕ → List ℕ
added counts totals zero = totals
added counts totals (suc n) = set (added counts totals n) n (get_or (added counts totals n) n 0 + get_or counts n 0)

-- Combination c's rows, and what was noted for it and its last counts, stand in its parts of the arrays.
pub record RowsKept (c : ℕ) (s : Rows) (comes place comes-after place_after : List ℕ) : Type 0 where
  pub rows_stored : comes-after ≡ sets comes (c * ROWS) s.comes
  pub places_stored : place_after ≡ sets place (c * ROWS) s.place

abbrev pub NotesKept : ℕ → Nodes → List ℕ → List ℕ → Type 0
NotesKept c ns notes notes_after = notes_after ≡ sets (sets notes (c * 56) ns.noted) (c * 56 + 48) ns.passed
