-- What is found in a table lies in it: the entry that the lookup finds, and the part that holds a row's entries.
-- Assumes nothing.
use Rattle.std.specs.Prelude.{if◌then◌else◌}
use Prim.Native.Nat.{ℕ, suc, ◌+◌, ◌*◌, ◌≤◌, ◌<◌}
use mathlib.Core.Path.{◌≡◌, refl}
use mathlib.Core.Bool.{Bool, true, false}
use mathlib.Core.List.{List, [], ◌∷◌}
use native.Mathlib.Omega.{arith}
use lib.Dec.{eqb}
use lib.ListN.{length, drop, length-drop}
use Rattle.model.specs.Plan.{Lines}
use Rattle.model.specs.Table.{Entry, entries_of}
use Rattle.model.specs.Lookup.{Found, entry, none, before_row, run_of_row, row_length, row_start, fits, find}
use Rattle.model.specs.Firmware.{words_of}
use Rattle.c_words.proofs.Reading.{words_count}

-- five words to an entry
five : (ws : List ℕ) → 5 * length (entries_of ws) ≤ length ws
five [] = omega arith
five (a ∷ []) = omega arith
five (a ∷ b ∷ []) = omega arith
five (a ∷ b ∷ c ∷ []) = omega arith
five (a ∷ b ∷ c ∷ d ∷ []) = omega arith
five (a ∷ b ∷ c ∷ d ∷ e ∷ ws) = let l = five ws in omega arith

-- four bytes to a word
pub twenty : (bytes : List ℕ) → 20 * length (entries_of (words_of bytes)) ≤ length bytes
twenty bytes = omega (arith, five (words_of bytes), words_count bytes)

-- the lookup finds none, or one of the entries that it looks at
pub data Finds (f : Found) (from count : ℕ) : Type 0 where
  finds_none : f ≡ none → Finds f from count
  finds_one : (k : ℕ) → f ≡ entry k → 1 ≤ count → k < from + count → Finds f from count

module _ (p : Lines) (n t h v : ℕ) where
  step : (b : Bool) (es : List Entry) (i : ℕ) → Finds (find p n t h v es (suc i)) (suc i) (length es) →
      Finds (elim b [ true ↦ entry i | false ↦ find p n t h v es (suc i) ]) i (suc (length es))
  step true es i f = finds_one i refl (omega arith) (omega arith)
  step false es i (finds_none e) = finds_none e
  step false es i (finds_one k e l m) = finds_one k e (omega arith) (omega arith)

  pub finds : (es : List Entry) (i : ℕ) → Finds (find p n t h v es i) i (length es)
  unfolding find
  finds [] i = finds_none refl
  finds (e ∷ es) i = step (fits p n t h v e) es i (finds es (suc i))

  -- from any entry on, where the node is one of the plan's or not
  pub found_within : (b : Bool) (es : List Entry) (from : ℕ) → Finds (if b then find p n t h v (drop from es) from else none) 0 (length es)
  found_within false es from = finds_none refl
  found_within true es from = at (finds (drop from es) from)
    where
      at : Finds (find p n t h v (drop from es) from) from (length (drop from es)) → Finds (find p n t h v (drop from es) from) 0 (length es)
      at (finds_none e) = finds_none e
      at (finds_one k e l m) = finds_one k e (omega (arith, length-drop from es)) (omega (arith, length-drop from es))

-- the part that holds a row's entries
run_few : (r : ℕ) (es : List Entry) → run_of_row r es ≤ length es
unfolding run_of_row
run_few r [] = omega arith
run_few r (e ∷ es) = at (eqb e.row r) (run_few r es)
  where
    at : (b : Bool) → run_of_row r es ≤ length es → elim b [ true ↦ suc (run_of_row r es) | false ↦ 0 ] ≤ suc (length es)
    at true l = omega arith
    at false l = omega arith

before_few : (r : ℕ) (es : List Entry) → before_row r es ≤ length es
unfolding before_row
before_few r [] = omega arith
before_few r (e ∷ es) = at (eqb e.row r) (before_few r es)
  where
    at : (b : Bool) → before_row r es ≤ length es → elim b [ true ↦ 0 | false ↦ suc (before_row r es) ] ≤ suc (length es)
    at true l = omega arith
    at false l = omega arith

start_most : (b : Bool) (n : ℕ) → (if b then 0 else n) ≤ n
start_most true n = omega arith
start_most false n = omega arith

pub row_within : (ws : List ℕ) (r : ℕ) → row_start ws r + row_length ws r ≤ length ws
unfolding row_start row_length
row_within ws r =
    let es : List Entry = entries_of ws in
    omega (
      arith,
      five ws,
      before_few r es,
      run_few r (drop (before_row r es) es),
      length-drop (before_row r es) es,
      start_most (eqb (5 * run_of_row r (drop (before_row r es) es)) 0) (5 * before_row r es),
    )
