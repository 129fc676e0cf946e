-- The test of an entry, decided by one fact at a time, and the turns of the search over a table's entries: an entry
-- that passes the test is found, one that does not is passed by.
-- Assumes nothing.
use mathlib.Core.Path.{◌≡◌, sym, ap, ◌∙◌}
use mathlib.Core.Bool.{Bool, true, false}
use mathlib.Core.List.{List, ◌∷◌}
use Prim.Native.Nat.{ℕ, suc, ◌+◌, ◌/◌, ◌≤◌, ◌<◌}
use native.Mathlib.Numerals.{add-one}
use lib.ListN.{length, drop}
use borrow.Author.Tests.{lt-ltb, le-ltb, eq-eqb, ne_eqb}
use Rattle.lists.proofs.Tests.{and_false}
use Rattle.model.specs.Table.{Entry, entries_of, bits_met}
use Rattle.model.specs.Lookup.{entry, none}
use Rattle.plan.specs.Tests.{at}
use Rattle.kernel_rows.specs.Entries.{entry_at}
use Rattle.kernel_rows.proofs.Entries.{entries_next, entries_end}
use Rattle.kernel.specs.Finding.{fits_by, find_by}

module _ (f : Entry → Bool) where
  passes : (e : Entry) (es : List Entry) (i : ℕ) → f e ≡ true → find_by f (e ∷ es) i ≡ entry i
  unfolding find_by
  passes e es i q = rw (q, find_by)

  fails : (e : Entry) (es : List Entry) (i : ℕ) → f e ≡ false → find_by f (e ∷ es) i ≡ find_by f es (suc i)
  unfolding find_by
  fails e es i q = rw (q, find_by)

  module _ (ws : List ℕ) (i : ℕ) where
    pub search_end : length ws / 5 ≤ i → find_by f (drop i (entries_of ws)) i ≡ none
    unfolding find_by
    search_end l = ap (λ (es : List Entry). find_by f es i) (entries_end ws i l)

    pub search_found : i < length ws / 5 → f (entry_at ws i) ≡ true → find_by f (drop i (entries_of ws)) i ≡ entry i
    search_found l q = ap (λ (es : List Entry). find_by f es i) (entries_next ws i l) ∙ passes (entry_at ws i) (drop (i + 1) (entries_of ws)) i q

    pub search_next : i < length ws / 5 → f (entry_at ws i) ≡ false → find_by f (drop i (entries_of ws)) i ≡ find_by f (drop (i + 1) (entries_of ws)) (i + 1)
    search_next l q =
        ap (λ (es : List Entry). find_by f es i) (entries_next ws i l) ∙ fails (entry_at ws i) (drop (i + 1) (entries_of ws)) i q
        ∙ ap (find_by f (drop (i + 1) (entries_of ws))) (sym (add-one i))

-- the test of an entry: another tick, no such row or another node decides it, and else its column
module _ (nodes : List ℕ) (rows n t h v : ℕ) (e : Entry) where
  pub other_tick : (e.tick ≡ t → ⊥) → fits_by nodes rows n t h v e ≡ false
  unfolding fits_by
  other_tick q = simp (ne_eqb e.tick t q, and_false)

  pub no_row : rows ≤ e.row → fits_by nodes rows n t h v e ≡ false
  unfolding fits_by
  no_row l = rw (le-ltb e.row rows l)

  pub other_node : (at nodes e.row ≡ n → ⊥) → fits_by nodes rows n t h v e ≡ false
  unfolding fits_by
  other_node q = simp (ne_eqb (at nodes e.row) n q, and_false)

  pub by_column : e.tick ≡ t → e.row < rows → at nodes e.row ≡ n → fits_by nodes rows n t h v e ≡ bits_met 32 e.known e.values h v
  unfolding fits_by
  by_column q l m = rw (lt-ltb e.row rows l, eq-eqb (at nodes e.row) n m, eq-eqb e.tick t q)
