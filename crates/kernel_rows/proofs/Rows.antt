-- The turns of the two searches of the row query: whether the next entry is of the row decides what is left to count.
-- Assumes nothing.
use mathlib.Core.Path.{◌≡◌, sym, ap, ◌∙◌}
use mathlib.Core.Bool.{true, false}
use mathlib.Core.List.{List, [], ◌∷◌}
use Prim.Native.Nat.{ℕ, suc, ◌+◌, ◌-◌, ◌*◌, ◌/◌, ◌≤◌, ◌<◌}
use native.Mathlib.Omega.{arith}
use lib.Dec.{eqb}
use lib.ListN.{length, get_or, take, drop}
use borrow.Author.Tests.{eq-eqb, ne_eqb}
use Rattle.model.specs.Table.{Entry, entries_of}
use Rattle.model.specs.Lookup.{before_row, run_of_row, row_length, row_start, row_part}
use Rattle.kernel_rows.specs.Entries.{entry_at}
use Rattle.kernel_rows.specs.RowRange.{RangeOf}
use Rattle.kernel_rows.proofs.Entries.{entries_next, entries_end}

-- one entry
before_is : (r : ℕ) (e : Entry) (es : List Entry) → eqb e.row r ≡ true → before_row r (e ∷ es) ≡ 0
unfolding before_row
before_is r e es q = rw (q, before_row)

before_not : (r : ℕ) (e : Entry) (es : List Entry) → eqb e.row r ≡ false → before_row r (e ∷ es) ≡ suc (before_row r es)
unfolding before_row
before_not r e es q = rw (q, before_row)

run_is : (r : ℕ) (e : Entry) (es : List Entry) → eqb e.row r ≡ true → run_of_row r (e ∷ es) ≡ suc (run_of_row r es)
unfolding run_of_row
run_is r e es q = rw (q, run_of_row)

run_not : (r : ℕ) (e : Entry) (es : List Entry) → eqb e.row r ≡ false → run_of_row r (e ∷ es) ≡ 0
unfolding run_of_row
run_not r e es q = rw (q, run_of_row)

module _ (ws : List ℕ) (r i : ℕ) where
  pub before_end : length ws / 5 ≤ i → before_row r (drop i (entries_of ws)) ≡ 0
  unfolding before_row
  before_end l = ap (before_row r) (entries_end ws i l)

  pub run_end : length ws / 5 ≤ i → run_of_row r (drop i (entries_of ws)) ≡ 0
  unfolding run_of_row
  run_end l = ap (run_of_row r) (entries_end ws i l)

  module _ (l : i < length ws / 5) where
    pub before_here : get_or ws (i * 5) 0 ≡ r → before_row r (drop i (entries_of ws)) ≡ 0
    before_here q = ap (before_row r) (entries_next ws i l) ∙ before_is r (entry_at ws i) (drop (i + 1) (entries_of ws)) (eq-eqb _ r q)

    pub before_next : (get_or ws (i * 5) 0 ≡ r → ⊥) → before_row r (drop i (entries_of ws)) ≡ suc (before_row r (drop (i + 1) (entries_of ws)))
    before_next q = ap (before_row r) (entries_next ws i l) ∙ before_not r (entry_at ws i) (drop (i + 1) (entries_of ws)) (ne_eqb _ r q)

    pub run_next : get_or ws (i * 5) 0 ≡ r → run_of_row r (drop i (entries_of ws)) ≡ suc (run_of_row r (drop (i + 1) (entries_of ws)))
    run_next q = ap (run_of_row r) (entries_next ws i l) ∙ run_is r (entry_at ws i) (drop (i + 1) (entries_of ws)) (eq-eqb _ r q)

    pub run_over : (get_or ws (i * 5) 0 ≡ r → ⊥) → run_of_row r (drop i (entries_of ws)) ≡ 0
    run_over q = ap (run_of_row r) (entries_next ws i l) ∙ run_not r (entry_at ws i) (drop (i + 1) (entries_of ws)) (ne_eqb _ r q)

-- the part that holds a row's entries, from the range of their numbers
module _ (ws : List ℕ) (r first end : ℕ) (d : RangeOf ws r first end) where
  pub length_same : row_length ws r ≡ (end - first) * 5
  unfolding row_length
  length_same =
      let same : row_length ws r ≡ 5 * run_of_row r (drop first (entries_of ws)) = ap (λ (n : ℕ). 5 * run_of_row r (drop n (entries_of ws))) (sym d.begins) in
      omega (arith, d.ends)

  -- no entry is of the row
  pub none_start : end ≤ first → row_start ws r ≡ 0
  unfolding row_start
  none_start z = rw (eq-eqb (row_length ws r) 0 (omega (arith, length_same)))

  pub none_part : end ≤ first → row_part ws r ≡ []
  unfolding row_part
  none_part z = let q : row_length ws r ≡ 0 = omega (arith, length_same) in rw q

  -- some entry is
  pub some_start : first < end → row_start ws r ≡ first * 5
  unfolding row_start
  some_start z = rw (ne_eqb (row_length ws r) 0 (λ q. omega (arith, length_same, q))) (omega (arith, d.begins))

  pub some_part : first < end → row_part ws r ≡ take (end * 5 - first * 5) (drop (first * 5) ws)
  unfolding row_part
  some_part z =
      let q : row_length ws r ≡ end * 5 - first * 5 = omega (arith, length_same) in
      rw (q, some_start z)
