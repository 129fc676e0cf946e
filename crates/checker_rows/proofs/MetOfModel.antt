-- For a table in which refusal 13 finds nothing, what the arrays by row say of a combination is what the model says of
-- it: whether some row is met another number of times than it is due, and, where none is, the log of the met entries
-- with their ends, places and known bits.
-- Assumes nothing.
use Rattle.std.specs.Prelude.{if◌then◌else◌}
use mathlib.Core.Path.{◌≡◌, refl, sym, ap, ◌∙◌, subst}
use mathlib.Core.Logic.{◌⊎◌, inl, inr}
use mathlib.Core.Bool.{Bool, true, false, not}
use mathlib.Core.List.Memᴰ.{head as here}
use mathlib.Core.List.Memᴰ.{not-nil as in_none}
use mathlib.Core.List.Memᴰ.{tail as there}
use mathlib.Core.List.{List, [], ◌∷◌, map, Memᴰ as In}
use Prim.Native.Nat.{ℕ, suc, ◌+◌, ◌^◌, ◌≤◌, ◌<◌}
use native.Mathlib.Omega.{arith}
use lib.Dec.{eqb, ltb}
use lib.ListN.{length, get_or, length-map}
use borrow.Author.Tests.{eqb-true, eq-eqb, ltb-true, ltb-false}
use Rattle.lists.specs.Lists.{any, keep, below}
use Rattle.lists.proofs.Tests.{two}
use Rattle.lists.proofs.Members.{none_in, keep_in, in_keep, below_in, any_same, one_or_none}
use Rattle.lists.proofs.Keep.{keep_map, keep_same}
use Rattle.model.specs.Plan.{Lines}
use Rattle.model.specs.Activity.{all_heard, combinations}
use Rattle.model.specs.Bus.{rows}
use Rattle.model.specs.Log.{full_ticks, span}
use Rattle.model.specs.Log as log
use Rattle.model.specs.Refusals.{nothing, plan_refusal}
use Rattle.model.specs.Table.{Entry, entries_of, column_met}
use Rattle.model.specs.Checking.{ill_formed, own, met_entries, met_log, due, miscounted, not_once}
use Rattle.laws.proofs.Good.{Good, good}
use Rattle.laws.proofs.Checks.{none_14}
use Rattle.log_queries.specs.Holding.{Row, absent, stands, Held}
use Rattle.plan_index.specs.declared.PlanIndex.{PlanIndex}
use Rattle.plan_layout.specs.Indexed.{Indexed}
use Rattle.checker_rows.specs.MetRows.{met_in, counted, ends, placed, column, by_row, met_rows, met_comes, met_place, Rowed}
use Rattle.checker_rows.specs.Due.{due_of, differs_at, miscounted_by}
use Rattle.checker_rows.proofs.ColumnBits.{Formed, formed, column_same}
use Rattle.checker_rows.proofs.RowStores.{of_row, left_by, left_most, by_row_at, by_row_length, count_tells}
use Rattle.checker_rows.proofs.DueOfModel.{due_link}

-- the values of an entry are one of its words
values_word : (words : List ℕ) (m : ℕ) → ((i : ℕ) → i < length words → get_or words i 0 < m) → (e : Entry) → In e (entries_of words) → e.values < m
values_word [] m h e i = absurd (in_none i)
values_word (a ∷ []) m h e i = absurd (in_none i)
values_word (a ∷ b ∷ []) m h e i = absurd (in_none i)
values_word (a ∷ b ∷ c ∷ []) m h e i = absurd (in_none i)
values_word (a ∷ b ∷ c ∷ d ∷ []) m h e i = absurd (in_none i)
values_word (a ∷ b ∷ c ∷ d ∷ x ∷ ws) m h e (here q) = subst (λ (z : Entry). z.values < m) (sym q) (h 2 (omega arith))
values_word (a ∷ b ∷ c ∷ d ∷ x ∷ ws) m h e (there i) = values_word ws m (λ i l. h (suc (suc (suc (suc (suc i))))) (omega arith)) e i

-- a list of at most one is the one that it has
single : {A : Type 0} (xs : List A) {x : A} → length xs ≤ 1 → In x xs → xs ≡ x ∷ []
single [] l m = absurd (in_none m)
single (y ∷ []) l (here q) = ap (λ z. z ∷ []) (sym q)
single (y ∷ []) l (there m) = absurd (in_none m)
single (y ∷ z ∷ xs) l m = absurd (omega arith)

module _ (p : Lines) (h : plan_refusal p ≡ nothing) (words : List ℕ) (f : any (ill_formed p) (entries_of words) ≡ false) where
  abbrev g : Good p
  g = good p h

  in_form : (e : Entry) → In e (entries_of words) → Formed p e
  in_form e m = formed p e (none_in (ill_formed p) f m)

  -- what `met_rows` requires of a table
  pub rowed : Rowed words
  rowed e m = let z = in_form e m in (omega (arith, z.row_in, g.few_processes, g.few_edges, g.few_conditions), z.tick_most)

  module _ (w : (i : ℕ) → i < length words → get_or words i 0 < 2 ^ 32) (b : PlanIndex) (bd : Indexed p b) (c : ℕ) (l : c < 2 ^ length p.conditions) where
    abbrev es : List Entry
    es = entries_of words

    abbrev C : List Bool
    C = get_or (combinations p) c []

    abbrev M : List Entry
    M = met_entries es C

    -- an entry is met just where the code says so
    pub column_link : (e : Entry) → In e (entries_of words) → column_met (all_heard (get_or (combinations p) c [])) e ≡ met_in c e
    column_link e m = column_same p g c l e (in_form e m) (values_word words (2 ^ 32) w e m)

    met_same : met_entries es C ≡ keep (met_in c) es
    unfolding met_entries
    met_same = keep_same (column_met (all_heard C)) (met_in c) es column_link

    met_in_table : (e : Entry) → In e M → In e es
    unfolding met_entries
    met_in_table e m = (keep_in (column_met (all_heard C)) es m).0

    row_in_table : (r : ℕ) (e : Entry) → In e (of_row M r) → In e es
    row_in_table r e m = met_in_table e (keep_in (λ (e : Entry). eqb e.row r) M m).0

    -- the rows of the log
    rows_same : (r : ℕ) → log.of_row (met_log es C) r ≡ map own (of_row M r)
    unfolding met_log
    rows_same r = keep_map (λ x. eqb x.row r) own M

    row_length : (r : ℕ) → length (log.of_row (met_log es C) r) ≡ length (of_row M r)
    row_length r = ap length (rows_same r) ∙ length-map (of_row M r) own

    first_in : (r : ℕ) (e : Entry) (xs : List Entry) → of_row M r ≡ e ∷ xs → In e M × (e.row ≡ r)
    first_in r e xs q =
        let k = keep_in (λ (e : Entry). eqb e.row r) M (subst (λ (ys : List Entry). In e ys) (sym q) (here refl)) in
        (k.0, eqb-true e.row r k.1)

    -- what stands at a row of an array
    at_row : (k : Entry → ℕ → ℕ) (r : ℕ) → get_or (by_row k c words) r 0 ≡ left_by k (of_row M r) 0
    at_row k r = by_row_at k c words r rowed ∙ ap (λ (xs : List Entry). left_by k (of_row xs r) 0) (sym met_same)

    -- how large the numbers in the arrays are
    pub comes_most : (r : ℕ) → get_or (met_comes words c b.span) r 0 ≤ 1000100000
    comes_most r =
        rw (at_row (ends b.span) r)
        (left_most (ends b.span) 1000100000 (of_row M r) 0
        (λ e m x. omega (arith, (in_form e (row_in_table r e m)).tick_most, bd.span_most e.row)) (omega arith))

    pub place_most : (r : ℕ) → get_or (met_place words c) r 0 ≤ 63
    place_most r = rw (at_row placed r) (left_most placed 63 (of_row M r) 0 (λ e m x. (in_form e (row_in_table r e m)).place_most) (omega arith))

    -- refusal 14 in one combination
    count_same : (r : ℕ) → r < rows p → differs_at (met_rows words c).count (due_of b c) r ≡ miscounted p C (met_log es C) r
    unfolding differs_at miscounted met_rows
    count_same r u =
        (λ i. not (eqb (at_row counted r i) (due_link p g b bd c l r u i)))
        ∙ ap not (count_tells (of_row M r) (due p C r))
        ∙ ap (λ (n : ℕ). not (eqb n (if due p C r then 1 else 0))) (sym (row_length r))

    pub miscounts_link : miscounted_by (met_rows words c).count (due_of b c) b.rows ≡ not_once p (entries_of words) (get_or (combinations p) c [])
    unfolding miscounted_by not_once
    miscounts_link =
        ap (λ (n : ℕ). any (differs_at (met_rows words c).count (due_of b c)) (below n)) bd.row_count
        ∙ any_same (differs_at (met_rows words c).count (due_of b c)) (miscounted p C (met_log es C)) (below (rows p)) (λ r m. count_same r (below_in (rows p) m))

    -- where each row is met as often as it is due
    module _ (once : not_once p (entries_of words) (get_or (combinations p) c []) ≡ false) where
      row_once : (r : ℕ) → length (of_row M r) ≤ 1
      row_once r = at (two (ltb r (rows p)))
        where
          none : (xs : List Entry) → of_row M r ≡ xs → rows p ≤ r → length (of_row M r) ≤ 1
          none [] q v = omega (arith, ap length q)
          none (e ∷ xs) q v =
              let k = first_in r e xs q in
              absurd (omega (arith, (in_form e (met_in_table e k.0)).row_in))

          at : (ltb r (rows p) ≡ true) ⊎ (ltb r (rows p) ≡ false) → length (of_row M r) ≤ 1
          at (inl u) = omega (arith, row_length r, (none_14 p es C).0 once r (ltb-true r (rows p) u), one_or_none (due p C r))
          at (inr u) = none (of_row M r) refl (ltb-false r (rows p) u)

      -- a met entry is the one of its row
      alone : (e : Entry) → In e M → of_row M e.row ≡ e ∷ []
      alone e m = single (of_row M e.row) (row_once e.row) (in_keep (λ (d : Entry). eqb d.row e.row) m (eq-eqb e.row e.row refl))

      stored_at : (k : Entry → ℕ → ℕ) (e : Entry) → In e M → get_or (by_row k c words) e.row 0 ≡ k e 0
      stored_at k e m = at_row k e.row ∙ ap (λ (xs : List Entry). left_by k xs 0) (alone e m)

      -- what the arrays have of a met entry
      pub known_at : (e : Entry) → In e (met_entries (entries_of words) (get_or (combinations p) c [])) → get_or (met_rows words c).known e.row 0 ≡ e.known
      unfolding met_rows
      known_at e m = stored_at column e m

      pub place_at : (e : Entry) → In e (met_entries (entries_of words) (get_or (combinations p) c [])) → get_or (met_place words c) e.row 0 ≡ e.place
      place_at e m = stored_at placed e m

      pub comes_at : (e : Entry) → In e (met_entries (entries_of words) (get_or (combinations p) c [])) →
          get_or (met_comes words c b.span) e.row 0 ≡ suc (e.tick + span p (full_ticks p) e.row)
      comes_at e m =
          let s = bd.spans e.row (in_form e (met_in_table e m)).row_in in
          stored_at (ends b.span) e m ∙ omega arith

      empty_at : (k : Entry → ℕ → ℕ) (r : ℕ) → of_row M r ≡ [] → get_or (by_row k c words) r 0 ≡ 0
      empty_at k r q = at_row k r ∙ ap (λ (xs : List Entry). left_by k xs 0) q

      row_of : (r : ℕ) (xs : List Entry) → of_row M r ≡ xs → Row p (met_log es C) r (get_or (met_comes words c b.span) r 0) (get_or (met_place words c) r 0)
      row_of r [] q = absent (rows_same r ∙ ap (map own) q) (empty_at (ends b.span) r q)
      row_of r (e ∷ xs) q =
          let k = first_in r e xs q in
          subst (λ (r : ℕ). Row p (met_log es C) r (get_or (met_comes words c b.span) r 0) (get_or (met_place words c) r 0)) k.1
          (stands e.tick
          (rows_same e.row ∙ ap (map own) (alone e k.0) ∙ (λ i. record { row = e.row; tick = e.tick; place = sym (place_at e k.0) i } ∷ []))
          (comes_at e k.0))

      process_place : (i : ℕ) → i < length p.processes → (xs : List Entry) → of_row M i ≡ xs → get_or (met_place words c) i 0 ≡ 0
      process_place i u [] q = empty_at placed i q
      process_place i u (e ∷ xs) q =
          let k = first_in i e xs q in
          ap (λ (r : ℕ). get_or (met_place words c) r 0) (sym k.1) ∙ place_at e k.0 ∙ (in_form e (met_in_table e k.0)).no_place (rw k.1 u)

      -- the arrays hold the log of the met entries
      pub held : Held p (met_log (entries_of words) (get_or (combinations p) c [])) (met_comes words c b.span) (met_place words c)
      held =
          record {
            row = λ r. row_of r (of_row M r) refl;
            no_place = λ i u. process_place i u (of_row M i) refl;
            comes_long = by_row_length (ends b.span) c words;
            place_long = by_row_length placed c words;
          }
