-- How many entries of a table pass a test before the first that does not: from the next entry on, at the end, behind
-- those that pass a narrower test; and their words lie within the table.
-- Assumes nothing.
use mathlib.Core.Path.{◌≡◌, refl, sym, ap, ◌∙◌}
use mathlib.Core.Bool.{Bool, true, false}
use mathlib.Core.Logic.{◌⊎◌, inl, inr}
use mathlib.Core.List.{List, [], ◌∷◌}
use Prim.Native.Nat.{ℕ, suc, ◌+◌, ◌*◌, ◌≤◌, ◌<◌}
use native.Mathlib.Omega.{arith}
use borrow.Author.Tests.{eq-eqb, ne_eqb, eqb-true, eqb-false, leb-true, leb-false}
use lib.Dec.{eqb, leb}
use lib.ListN.{length, drop, get_or, length-drop}
use lib.Seq.{drop-drop}
use Rattle.lists.proofs.Tests.{two, both}
use Rattle.model.specs.Table.{Entry, entries_of}
use Rattle.listing_count.proofs.Words.{entries_from, entries_past}
use Rattle.listing_entries.specs.Lines.{begin_of}
use Rattle.listing_entries.specs.Runs.{of_row, of_run, run_of, entry_from, stands, leading, row_entries, same_entries}

module _ (f : Entry → Bool) where
  leading_yes : (e : Entry) (es : List Entry) → f e ≡ true → leading f (e ∷ es) ≡ suc (leading f es)
  unfolding leading
  leading_yes e es h = rw h

  leading_no : (e : Entry) (es : List Entry) → f e ≡ false → leading f (e ∷ es) ≡ 0
  unfolding leading
  leading_no e es h = rw h

  leading_nil : leading f [] ≡ 0
  unfolding leading
  leading_nil = refl

  few_words : (ws : List ℕ) → 5 * leading f (entries_of ws) ≤ length ws
  few_words [] = omega (arith, leading_nil)
  few_words (a ∷ []) = omega (arith, leading_nil)
  few_words (a ∷ b ∷ []) = omega (arith, leading_nil)
  few_words (a ∷ b ∷ c ∷ []) = omega (arith, leading_nil)
  few_words (a ∷ b ∷ c ∷ d ∷ []) = omega (arith, leading_nil)
  few_words (a ∷ b ∷ c ∷ d ∷ e ∷ ws) = at (few_words ws) (two (f (record { row = a; known = b; values = c; tick = d; place = e })))
    where
      at : 5 * leading f (entries_of ws) ≤ length ws → (f (record { row = a; known = b; values = c; tick = d; place = e }) ≡ true) ⊎ (f (record { row = a; known = b; values = c; tick = d; place = e }) ≡ false) →
          5 * leading f (record { row = a; known = b; values = c; tick = d; place = e } ∷ entries_of ws) ≤ length (a ∷ b ∷ c ∷ d ∷ e ∷ ws)
      at h (inl y) = omega (arith, h, leading_yes _ (entries_of ws) y)
      at h (inr n) = omega (arith, h, leading_no _ (entries_of ws) n)

  module _ (table : List ℕ) (i : ℕ) where
    pub leading_within : i ≤ length table → i + 5 * leading f (entries_of (drop i table)) ≤ length table
    leading_within h = omega (arith, few_words (drop i table), length-drop i table)

    -- what a test of the code says
    pub stands_yes : stands f table i ≡ true → (i + 5 ≤ length table) × (f (entry_from table i) ≡ true)
    unfolding stands
    stands_yes h =
        let b = both (leb (i + 5) (length table)) (f (entry_from table i)) h in
        (leb-true (i + 5) (length table) b.0, b.1)

    pub leading_next : i + 5 ≤ length table → f (entry_from table i) ≡ true → leading f (entries_of (drop i table)) ≡ suc (leading f (entries_of (drop (i + 5) table)))
    leading_next l h = ap (leading f) (entries_from table i (omega arith) (omega arith)) ∙ leading_yes (entry_from table i) _ h

    pub leading_end : stands f table i ≡ false → leading f (entries_of (drop i table)) ≡ 0
    unfolding stands
    leading_end h = at (two (leb (i + 5) (length table)))
      where
        at : (leb (i + 5) (length table) ≡ true) ⊎ (leb (i + 5) (length table) ≡ false) → leading f (entries_of (drop i table)) ≡ 0
        at (inl y) =
            let l = leb-true (i + 5) (length table) y in
            ap (leading f) (entries_from table i (omega (arith, l)) (omega (arith, l))) ∙ leading_no (entry_from table i) _ (rw y at h)
        at (inr n) = let l = leb-false (i + 5) (length table) n in ap (leading f) (entries_past table i (λ m. omega (arith, l, m))) ∙ leading_nil

-- entries that pass a narrower test come first
module _ (f g : Entry → Bool) (wider : (e : Entry) → f e ≡ true → g e ≡ true) where
  -- one entry and the words behind it
  skip_next : (x : Entry) (ws us : List ℕ) → entries_of ws ≡ x ∷ entries_of us → drop 5 ws ≡ us →
      leading g (entries_of us) ≡ leading f (entries_of us) + leading g (entries_of (drop (5 * leading f (entries_of us)) us)) →
      leading g (entries_of ws) ≡ leading f (entries_of ws) + leading g (entries_of (drop (5 * leading f (entries_of ws)) ws))
  skip_next x ws us e d h = at (two (f x))
    where
      at : (f x ≡ true) ⊎ (f x ≡ false) → leading g (entries_of ws) ≡ leading f (entries_of ws) + leading g (entries_of (drop (5 * leading f (entries_of ws)) ws))
      at (inl y) =
          let n = leading f (entries_of us) in
          let p : leading f (entries_of ws) ≡ suc n = ap (leading f) e ∙ leading_yes f x (entries_of us) y in
          let q : leading g (entries_of ws) ≡ suc (leading g (entries_of us)) = ap (leading g) e ∙ leading_yes g x (entries_of us) (wider x y) in
          let five : 5 * leading f (entries_of ws) ≡ 5 + 5 * n = omega (arith, p) in
          let r : drop (5 * leading f (entries_of ws)) ws ≡ drop (5 * n) us = ap (λ (k : ℕ). drop k ws) five ∙ sym (drop-drop (5 * n) 5 ws) ∙ ap (drop (5 * n)) d in
          omega (arith, p, q, h, ap (λ (vs : List ℕ). leading g (entries_of vs)) r)
      at (inr n) =
          let p : leading f (entries_of ws) ≡ 0 = ap (leading f) e ∙ leading_no f x (entries_of us) n in
          rw p (omega arith)

  skip : (ws : List ℕ) → leading g (entries_of ws) ≡ leading f (entries_of ws) + leading g (entries_of (drop (5 * leading f (entries_of ws)) ws))
  skip [] = rw (leading_nil f) (omega arith)
  skip (a ∷ []) = rw (leading_nil f) (omega arith)
  skip (a ∷ b ∷ []) = rw (leading_nil f) (omega arith)
  skip (a ∷ b ∷ c ∷ []) = rw (leading_nil f) (omega arith)
  skip (a ∷ b ∷ c ∷ d ∷ []) = rw (leading_nil f) (omega arith)
  skip (a ∷ b ∷ c ∷ d ∷ e ∷ ws) = skip_next (record { row = a; known = b; values = c; tick = d; place = e }) (a ∷ b ∷ c ∷ d ∷ e ∷ ws) ws refl refl (skip ws)

  pub leading_skip : (table : List ℕ) (i : ℕ) →
      leading g (entries_of (drop i table)) ≡ leading f (entries_of (drop i table)) + leading g (entries_of (drop (i + 5 * leading f (entries_of (drop i table))) table))
  leading_skip table i = skip (drop i table) ∙ rw (drop-drop (5 * leading f (entries_of (drop i table))) i table)

-- an entry is of its own run, and a run is of one row
pub run_first : (table : List ℕ) (first : ℕ) → run_of table first (entry_from table first) ≡ true
unfolding of_run
run_first table first = rw (eq-eqb (get_or table first 0) (get_or table first 0) refl, eq-eqb (get_or table (first + 3) 0) (get_or table (first + 3) 0) refl, eq-eqb (get_or table (first + 4) 0) (get_or table (first + 4) 0) refl)

row_first : (table : List ℕ) (first : ℕ) → of_row (get_or table first 0) (entry_from table first) ≡ true
unfolding of_row
row_first table first = eq-eqb (get_or table first 0) (get_or table first 0) refl

pub row_yes : (table : List ℕ) (first i : ℕ) → stands (of_row (get_or table first 0)) table i ≡ true → (i + 5 ≤ length table) × (get_or table i 0 ≡ get_or table first 0)
unfolding of_row
row_yes table first i h =
    let y = stands_yes (of_row (get_or table first 0)) table i h in
    (y.0, eqb-true (get_or table i 0) (get_or table first 0) y.1)

pub run_row : (row tick place : ℕ) (e : Entry) → of_run row tick place e ≡ true → of_row row e ≡ true
unfolding of_run of_row
run_row row tick place e h = (both (eqb e.row row) _ h).0

-- the entries of a row from word `first` on are some, and their words lie within the table; the same where the plan
-- lacks the row
module _ (processes edges conditions : ℕ) (table : List ℕ) (first : ℕ) where
  pub same_none : length (begin_of processes edges conditions (get_or table first 0)) ≡ 0 → same_entries processes edges conditions table first ≡ 1
  unfolding same_entries
  same_none h = rw (eq-eqb (length (begin_of processes edges conditions (get_or table first 0))) 0 h)

  pub same_some : (length (begin_of processes edges conditions (get_or table first 0)) ≡ 0 → ⊥) → same_entries processes edges conditions table first ≡ row_entries table first
  unfolding same_entries
  same_some h = rw (ne_eqb (length (begin_of processes edges conditions (get_or table first 0))) 0 h)

  pub same_within : first + 5 ≤ length table → (0 < same_entries processes edges conditions table first) × (first + 5 * same_entries processes edges conditions table first ≤ length table)
  same_within h = at (two (eqb (length (begin_of processes edges conditions (get_or table first 0))) 0))
    where
      at : (eqb (length (begin_of processes edges conditions (get_or table first 0))) 0 ≡ true) ⊎ (eqb (length (begin_of processes edges conditions (get_or table first 0))) 0 ≡ false) →
          (0 < same_entries processes edges conditions table first) × (first + 5 * same_entries processes edges conditions table first ≤ length table)
      at (inl y) = let e = same_none (eqb-true (length (begin_of processes edges conditions (get_or table first 0))) 0 y) in (omega (arith, e), omega (arith, e))
      at (inr n) =
          let e = same_some (eqb-false (length (begin_of processes edges conditions (get_or table first 0))) 0 n) in
          let f = of_row (get_or table first 0) in
          (omega (arith, e, leading_next f table first h (row_first table first)), omega (arith, e, leading_within f table first (omega arith)))
