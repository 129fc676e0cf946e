-- Document 01, "Table and frame list": the row query and the kernel lookup.
-- Assumes nothing.
use Rattle.std.specs.Prelude.{ℕ, suc, ◌*◌, Bool, true, false, ◌&&◌, List, [], ◌∷◌, eqb, ltb, length, take, drop, if◌then◌else◌}
use Rattle.model.specs.Plan.{Lines}
use Rattle.model.specs.Bus.{rows, row_node}
use Rattle.model.specs.Refusals.{Refusal, nothing, refused, plan_refusal}
use Rattle.model.specs.Table.{Entry, entries_of, bits_met}

-- "A row's entries are handed back as the part of the lent table holding them: from the first entry of that row to the
-- next of another row, empty if none; stray last words are ignored." The number of entries before that part, and in it;
-- an empty part is the front.
unfoldable pub before_row : ℕ → List Entry → ℕ
before_row r [] = 0
before_row r (e ∷ es) = elim (eqb e.row r) [ true ↦ 0 | false ↦ suc (before_row r es) ]

unfoldable pub run_of_row : ℕ → List Entry → ℕ
run_of_row r [] = 0
run_of_row r (e ∷ es) = elim (eqb e.row r) [ true ↦ suc (run_of_row r es) | false ↦ 0 ]

unfoldable pub row_length : List ℕ → ℕ → ℕ
row_length words r = let es : List Entry = entries_of words in 5 * run_of_row r (drop (before_row r es) es)

unfoldable pub row_start : List ℕ → ℕ → ℕ
row_start words r = if eqb (row_length words r) 0 then 0 else 5 * before_row r (entries_of words)

unfoldable pub row_part : List ℕ → ℕ → List ℕ
row_part words r = take (row_length words r) (drop (row_start words r) words)

-- "It gives the number of the first entry, from there on, of that node (an edge or broadcast counts to its sender) at
-- that tick whose known bits are all heard, with the heard values at those bits, or none." Or 2 to 9 refuse the plan.
pub data Found : Type 0 where
  entry : ℕ → Found
  none : Found
  refusal : ℕ → Found

-- "a row the plan lacks belongs to no node"
unfoldable pub fits : Lines → ℕ → ℕ → ℕ → ℕ → Entry → Bool
fits p n t h v e = ltb e.row (rows p) && eqb (row_node p e.row) n && eqb e.tick t && bits_met 32 e.known e.values h v

unfoldable pub find : Lines → ℕ → ℕ → ℕ → ℕ → List Entry → ℕ → Found
find p n t h v [] i = none
find p n t h v (e ∷ es) i = elim (fits p n t h v e) [ true ↦ entry i | false ↦ find p n t h v es (suc i) ]

unfoldable pub unless : Refusal → Found → Found
unless nothing f = f
unless (refused n) f = refusal n

-- "An unknown node gives none".
unfoldable pub lookup : Lines → List ℕ → ℕ → ℕ → ℕ → ℕ → ℕ → Found
lookup p words n t h v from =
    unless (plan_refusal p) (if ltb n (length p.slots) then find p n t h v (drop from (entries_of words)) from else none)
