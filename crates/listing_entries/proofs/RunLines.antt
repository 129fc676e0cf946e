-- A line of a run is its beginning, the column's conditions and its end; a row that the plan lacks has no line; and the
-- next line of a run.
-- Assumes nothing.
use mathlib.Core.Path.{◌≡◌, refl, ap, ◌∙◌}
use mathlib.Core.Bool.{true, false}
use mathlib.Core.Logic.{◌⊎◌, inl, inr}
use mathlib.Core.List.{List, [], ◌++◌, append_assoc}
use Prim.Native.Nat.{ℕ, ◌+◌, ◌-◌, ◌≤◌, ◌<◌}
use native.Mathlib.Omega.{arith}
use borrow.Author.Tests.{ltb-true, ltb-false, eqb-true}
use lib.Dec.{ltb, eqb}
use lib.ListN.{length, drop, get_or, length-append}
use Rattle.lists.proofs.Tests.{two, both}
use Rattle.model.specs.Text.{text, decimal}
use Rattle.text_lines.specs.Label.{labelled}
use Rattle.listing_count.specs.Parts.{values_from, column_of, start_of, item_of, entry_of, entry_text, entries_text}
use Rattle.listing_count.proofs.Words.{entries_at}
use Rattle.listing_count.proofs.Cases.{entry_start, entry_send, entry_tell, entry_none}
use Rattle.listing_entries.specs.Lines.{begin_by, begin_of, end_of, line_at}
use Rattle.listing_entries.proofs.LineEnds.{begin_length, begin_start, begin_send, begin_tell, begin_none, end_start, end_item}
use Rattle.listing_entries.specs.Runs.{of_run, run_of, entry_from, Lined}

regroup : (a w v t e : List ℕ) → a ++ ((w ++ (v ++ t)) ++ e) ≡ (a ++ w) ++ (v ++ (t ++ e))
regroup a w v t e = simp append_assoc

module _ (processes edges conditions row tick place : ℕ) where
  abbrev begin : List ℕ
  begin = begin_of processes edges conditions row

  abbrev last : List ℕ
  last = end_of processes row tick place

  item_lined : (label : List ℕ) (number : ℕ) → length label ≡ 6 → processes ≤ row → begin ≡ begin_by label number →
      ((known values : ℕ) → entry_of processes edges conditions row known values tick place ≡ item_of label conditions number known values tick place) →
      Lined processes edges conditions row tick place begin last
  unfolding item_of column_of
  item_lined label number six h b e =
      record {
        line = λ known values. e known values ∙ regroup (label ++ decimal number) (text " (when") (values_from conditions known values 0) (labelled ") (at " tick) (labelled ") (place " place ++ text "))\n") ∙ rw (b, end_item processes row tick place h);
        begin_long = omega (arith, ap length b, begin_length label number);
        last_long = rw (end_item processes row tick place h) (simp length-append (omega arith));
      }

  start_lined : row < processes → Lined processes edges conditions row tick place begin last
  unfolding start_of column_of
  start_lined h =
      record {
        line = λ known values. entry_start processes edges conditions row known values tick place h ∙ regroup (labelled "(start " row) (text " (when") (values_from conditions known values 0) (labelled ") (at " tick) (text "))\n") ∙ rw (begin_start processes edges conditions row h, end_start processes row tick place h);
        begin_long = omega (arith, ap length (begin_start processes edges conditions row h), begin_length (text "(start ") row);
        last_long = rw (end_start processes row tick place h) (simp length-append (omega arith));
      }

  -- a row that the plan has: each of its lines begins and ends so; and one that it lacks
  pub lined : (length begin ≡ 0 → ⊥) → Lined processes edges conditions row tick place begin last
  lined some = at (two (ltb row processes)) (two (ltb (row - processes) edges)) (two (ltb (row - processes - edges) conditions))
    where
      at : (ltb row processes ≡ true) ⊎ (ltb row processes ≡ false) → (ltb (row - processes) edges ≡ true) ⊎ (ltb (row - processes) edges ≡ false) →
          (ltb (row - processes - edges) conditions ≡ true) ⊎ (ltb (row - processes - edges) conditions ≡ false) → Lined processes edges conditions row tick place begin last
      at (inl a) b c = start_lined (ltb-true row processes a)
      at (inr a) (inl b) c =
          let h = ltb-false row processes a in
          let l = ltb-true (row - processes) edges b in
          item_lined (text "(send ") (row - processes) refl h (begin_send processes edges conditions row h l) (λ known values. entry_send processes edges conditions row known values tick place h l)
      at (inr a) (inr b) (inl c) =
          let h = ltb-false row processes a in
          let l = ltb-false (row - processes) edges b in
          let o = ltb-true (row - processes - edges) conditions c in
          item_lined (text "(tell ") (row - processes - edges) refl h (begin_tell processes edges conditions row h l o) (λ known values. entry_tell processes edges conditions row known values tick place h l o)
      at (inr a) (inr b) (inr c) =
          absurd (some (ap length (begin_none processes edges conditions row (ltb-false row processes a) (ltb-false (row - processes) edges b) (ltb-false (row - processes - edges) conditions c))))

  pub lacking : length begin ≡ 0 → (known values : ℕ) → entry_of processes edges conditions row known values tick place ≡ []
  lacking none known values = at (two (ltb row processes)) (two (ltb (row - processes) edges)) (two (ltb (row - processes - edges) conditions))
    where
      at : (ltb row processes ≡ true) ⊎ (ltb row processes ≡ false) → (ltb (row - processes) edges ≡ true) ⊎ (ltb (row - processes) edges ≡ false) →
          (ltb (row - processes - edges) conditions ≡ true) ⊎ (ltb (row - processes - edges) conditions ≡ false) → entry_of processes edges conditions row known values tick place ≡ []
      at (inl a) b c = absurd (omega (arith, none, ap length (begin_start processes edges conditions row (ltb-true row processes a)), begin_length (text "(start ") row))
      at (inr a) (inl b) c =
          absurd (omega (arith, none, ap length (begin_send processes edges conditions row (ltb-false row processes a) (ltb-true (row - processes) edges b)), begin_length (text "(send ") (row - processes)))
      at (inr a) (inr b) (inl c) =
          absurd (
          omega (
            arith,
            none,
            ap length (begin_tell processes edges conditions row (ltb-false row processes a) (ltb-false (row - processes) edges b) (ltb-true (row - processes - edges) conditions c)),
            begin_length (text "(tell ") (row - processes - edges),
          )
          )
      at (inr a) (inr b) (inr c) =
          entry_none processes edges conditions row known values tick place (ltb-false row processes a) (ltb-false (row - processes) edges b) (ltb-false (row - processes - edges) conditions c)

-- the entries from word i on, of which the first is one of a run, and one of a row that the plan lacks
module _ (processes edges conditions : ℕ) (table : List ℕ) (i : ℕ) where
  abbrev rest : List ℕ
  rest = entries_text processes edges conditions (drop (i + 5) table)

  abbrev known : ℕ
  known = get_or table (i + 1) 0

  abbrev values : ℕ
  values = get_or table (i + 2) 0

  pub run_next : (first : ℕ) {begin last : List ℕ} → i + 5 ≤ length table → run_of table first (entry_from table i) ≡ true →
      Lined processes edges conditions (get_or table first 0) (get_or table (first + 3) 0) (get_or table (first + 4) 0) begin last →
      entries_text processes edges conditions (drop i table) ≡ line_at begin last conditions table i ++ rest
  unfolding of_run
  run_next first {begin} {last} enough s m =
      let b = both (eqb (get_or table i 0) (get_or table first 0)) _ s in
      let d = both (eqb (get_or table (i + 3) 0) (get_or table (first + 3) 0)) _ b.1 in
      let row_same = eqb-true (get_or table i 0) (get_or table first 0) b.0 in
      let tick_same = eqb-true (get_or table (i + 3) 0) (get_or table (first + 3) 0) d.0 in
      let place_same = eqb-true (get_or table (i + 4) 0) (get_or table (first + 4) 0) d.1 in
      let e : entry_of processes edges conditions (get_or table i 0) known values (get_or table (i + 3) 0) (get_or table (i + 4) 0) ≡ line_at begin last conditions table i =
      rw (row_same, tick_same, place_same) (m.line known values) in
      entries_at table i (entry_text processes edges conditions) (omega (arith, enough)) (omega (arith, enough)) ∙ ap (λ (line : List ℕ). line ++ rest) e

  pub run_none : i + 5 ≤ length table → length (begin_of processes edges conditions (get_or table i 0)) ≡ 0 → entries_text processes edges conditions (drop i table) ≡ rest
  run_none enough none =
      entries_at table i (entry_text processes edges conditions) (omega arith) (omega arith)
      ∙ ap (λ (line : List ℕ). line ++ rest) (lacking processes edges conditions (get_or table i 0) (get_or table (i + 3) 0) (get_or table (i + 4) 0) none known values)
