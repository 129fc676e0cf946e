-- Where the arrays hold the logs of all combinations, the numbers of a row stand for the entries of the row in the
-- model's table, and the words written are the words of that table.
-- Assumes nothing.
use mathlib.Core.Path.{◌≡◌, refl, sym, ap, ◌∙◌, subst, subst₂}
use mathlib.Core.Logic.{◌⊎◌, inl, inr}
use mathlib.Core.Bool.{Bool, true, false}
use mathlib.Core.List.Memᴰ.{head as here}
use mathlib.Core.List.{List, [], ◌∷◌, ◌++◌, map, Memᴰ as In}
use Prim.Native.Nat.{ℕ, zero, suc, ◌+◌, ◌-◌, ◌*◌, ◌^◌, ◌≤◌, ◌<◌, max}
use native.Mathlib.Omega.{arith}
use lib.Bits.{bit_and, and_le_l}
use lib.Dec.{eqb, ltb}
use lib.ListN.{length, get_or, take}
use lib.Seq.{get_or-take, get_or-drop}
use borrow.Author.Tests.{eqb-true, eqb-false, ltb-true, ltb-false}
use Rattle.lists.specs.Lists.{each, below}
use Rattle.lists.specs.Ordered.{put, put_all}
use Rattle.lists.proofs.Tests.{two}
use Rattle.lists.proofs.Members.{in_getD, in_each, in_below, keep_in}
use Rattle.lists.proofs.Keep.{each_same, map_each}
use Rattle.lists.proofs.Order.{in_put_all}
use Rattle.lists.proofs.Places.{list_below}
use Rattle.model.specs.Plan.{Lines}
use Rattle.model.specs.Activity.{combinations}
use Rattle.model.specs.Bus.{rows}
use Rattle.model.specs.Log.{Placed, Log, of_row, full_ticks, span, over, known}
use Rattle.model.specs.Planning.{bound, planned}
use Rattle.model.specs.Refusals.{nothing, plan_refusal}
use Rattle.model.specs.Table.{Entry, known_bits, value_bits, entry_of, Planned, plans, made_entries, row_entries, key, one_of_two, result, entry_words}
use Rattle.laws.proofs.Combinations.{combination_length}
use Rattle.laws.proofs.Bound.{bound_small}
use Rattle.laws.proofs.Good.{good}
use Rattle.laws.proofs.OwnTable.{item_bytes, slot_bytes}
use Rattle.laws.proofs.Progress.{over_by_bound}
use Rattle.laws.proofs.Rules.{Kept}
use Rattle.laws.proofs.Safety.{planning_keeps}
use Rattle.laws.proofs.Words.{entry_words_joined}
use Rattle.bitset.proofs.Known.{values_built}
use Rattle.bitset.proofs.Numbered.{combinations_count, combination_number}
use Rattle.log_queries.specs.Reading.{known_by}
use Rattle.log_queries.specs.Holding.{Row, absent, stands}
use Rattle.log_queries.proofs.Readings.{known_small, known_same, known_link}
use Rattle.table_entries.specs.Among.{multiple}
use Rattle.table_entries.proofs.Putting.{put_all_append}
use Rattle.table_entries.proofs.Multiples.{numbers_ascend}
use Rattle.table_entries.specs.Words.{five, row_part, table}
use Rattle.table_entries.proofs.WordsWritten.{table_length}
use Rattle.table_entries.specs.Numbers.{number, number_at, row_number, row_numbers, Readable}
use Rattle.table_entries.specs.Listed.{Listed}
use Rattle.table_entries.specs.Logs.{entry_from, block, numbered, plan_of, Logs}
use Rattle.table_entries.proofs.Gathering.{each_next, row_absent, row_taken_over, row_own}
use Rattle.table_entries.proofs.SmallNumbers.{numbers_join}
use Rattle.table_entries.proofs.Keys.{entries_put, put_again, entry_made, number_of_entry, number_back}

-- what stands in combination c's part of an array
pub block_at : (xs : List ℕ) (c r : ℕ) → r < 198 → get_or (block xs c) r 0 ≡ get_or xs (c * 198 + r) 0
block_at xs c r l = get_or-drop (c * 198) (take (c * 198 + 198) xs) r 0 ∙ get_or-take (c * 198 + 198) xs (c * 198 + r) 0 (omega arith)

put_one : (x : ℕ) (ys : List ℕ) → put_all (multiple 1) max (x ∷ []) ys ≡ put (multiple 1) max x ys
unfolding put_all
put_one x ys = refl

put_nothing : (ys : List ℕ) → put_all (multiple 1) max [] ys ≡ ys
unfolding put_all
put_nothing ys = refl

each_map : {A B C : Type 0} (f : B → List C) (g : A → B) (xs : List A) → each f (map g xs) ≡ each (λ x. f (g x)) xs
each_map f g [] = refl
each_map f g (x ∷ xs) = ap (λ (zs : List _). f (g x) ++ zs) (each_map f g xs)

-- the words of entries
words_row : (r : ℕ) (xs : List ℕ) → entry_words (map (entry_from r) xs) ≡ each (five r) xs
words_row r [] = refl
words_row r (x ∷ xs) = ap (λ (ws : List ℕ). five r x ++ ws) (words_row r xs)

words_each : (f : ℕ → List ℕ) (rs : List ℕ) → entry_words (each (λ r. map (entry_from r) (f r)) rs) ≡ each (λ r. each (five r) (f r)) rs
words_each f [] = refl
words_each f (r ∷ rs) =
    entry_words_joined (map (entry_from r) (f r)) (each (λ r. map (entry_from r) (f r)) rs) ∙ (λ i. words_row r (f r) i ++ words_each f rs i)

words_five : (es : List Entry) → length (entry_words es) ≡ 5 * length es
words_five [] = refl
words_five (e ∷ es) = let r = words_five es in omega arith

module _ (p : Lines) (passes : plan_refusal p ≡ nothing) (comes place since lasting : List ℕ) (L : Logs p comes place since lasting) where
  abbrev conditionrow : ℕ
  conditionrow = length p.processes + length p.edges

  abbrev conditions# : ℕ
  conditions# = length p.conditions

  abbrev count : ℕ
  count = 2 ^ conditions#

  abbrev log_of : ℕ → Log
  log_of c = (planned p (numbered p c)).log

  abbrev come : ℕ → ℕ → ℕ
  come r c = get_or comes (c * 198 + r) 0

  few_rows : rows p ≤ 198
  few_rows = let g = good p passes in omega (arith, g.few_processes, g.few_edges, g.few_conditions)

  few_conditions : conditions# ≤ 6
  few_conditions = (good p passes).few_conditions

  -- what the arrays hold of a row
  row_at : (r c : ℕ) → r < 198 → c < count → Row p (log_of c) r (come r c) (get_or place (c * 198 + r) 0)
  row_at r c l h = subst₂ (Row p (log_of c) r) (block_at comes c r l) (block_at place c r l) ((L.held c h).row r)

  -- the masks of an entry's column
  known_mask : (c t : ℕ) → c < count → known_bits (known p (numbered p c) (over p (full_ticks p) (log_of c) t)) ≡ known_by comes (c * 198 + conditionrow) conditions# (suc t)
  known_mask c t h =
      known_link p (log_of c) (block comes c) (block place c) (L.held c h) (numbered p c) t
      ∙ known_same (block comes c) comes conditionrow (c * 198 + conditionrow) conditions# (suc t)
      (λ k l. block_at comes c (conditionrow + k) (omega (arith, few_rows)) ∙ ap (λ (x : ℕ). get_or comes x 0) (omega arith))

  value_mask : (c t : ℕ) → c < count →
      value_bits (known p (numbered p c) (over p (full_ticks p) (log_of c) t)) ≡ bit_and (known_by comes (c * 198 + conditionrow) conditions# (suc t)) c
  value_mask c t h =
      values_built p (numbered p c) (over p (full_ticks p) (log_of c) t)
      ∙ (λ i. bit_and (known_mask c t h i) (combination_number conditions# c h i))

  -- a row that stands in a log is over by the bound, and an item lies in its frame
  module _ (r c t at : ℕ) (l : r < rows p) (h : c < count) (e : of_row (log_of c) r ≡ record { row = r; tick = t; place = at } ∷ []) where
    abbrev item : Placed
    item = record { row = r; tick = t; place = at }

    width : length (numbered p c) ≡ conditions#
    width = combination_length p (numbered p c) (in_getD (combinations p) c [] (omega (arith, combinations_count conditions#)))

    member : In item (log_of c)
    member = (keep_in (λ x. eqb x.row r) (log_of c) (subst (In item) (sym e) (here refl))).0

    over_soon : suc (t + span p (full_ticks p) r) ≤ 1000000000
    over_soon = omega (arith, over_by_bound p (numbered p c) (good p passes) width item member, bound_small p (good p passes))

    item_placed : length p.processes ≤ r → at < 64
    unfolding planned
    item_placed u =
        let k : Kept p (numbered p c) (log_of c) = planning_keeps p (numbered p c) passes width (bound p) in
        omega (arith, k.in_frame item (record { member = member; high = u }), item_bytes p (good p passes) r u l, slot_bytes p (good p passes) r l)

  -- The arrays can be read.
  pub readable : (r c : ℕ) → r < rows p → c < 2 ^ length p.conditions → Readable comes place lasting r c
  readable r c l h = from (row_at r c (omega (arith, few_rows)) h) refl
    where
      from : {at : ℕ} → Row p (log_of c) r (come r c) at → at ≡ get_or place (c * 198 + r) 0 → Readable comes place lasting r c
      from (absent e z) q = record { soon = omega arith; lasts = λ n. absurd (n z); placed = λ n. absurd (n z) }
      from {at} (stands t e z) q =
          record {
            soon = omega (arith, z, over_soon r c t at l h e);
            lasts = λ n. omega (arith, z, L.spans r l);
            placed = λ n. small (two (ltb r (length p.processes)));
          }
        where
          small : (ltb r (length p.processes) ≡ true) ⊎ (ltb r (length p.processes) ≡ false) → get_or place (c * 198 + r) 0 < 64
          small (inl u) = omega (arith, sym (block_at place c r (omega (arith, few_rows))) ∙ (L.held c h).no_place r (ltb-true _ _ u))
          small (inr u) = omega (arith, item_placed r c t at l h e (ltb-false _ _ u))

  -- the numbers that combinations give for a row, with none taken over, and the entries that they make
  abbrev every : ℕ → ℕ → List ℕ
  every r c = row_number comes place conditionrow conditions# [] lasting r c

  abbrev own : ℕ → ℕ → List ℕ
  own r c = row_number comes place conditionrow conditions# since lasting r c

  number_link : (r c t : ℕ) → r < rows p → c < count → get_or place (c * 198 + r) 0 < 64 →
      entry_from r (number_at comes place conditionrow conditions# c r (suc t))
      ≡ entry_of p (numbered p c) (log_of c) (record { row = r; tick = t; place = get_or place (c * 198 + r) 0 })
  unfolding number_at entry_of
  number_link r c t l h small =
      let m : ℕ = known_by comes (c * 198 + conditionrow) conditions# (suc t) in
      let k = known_small comes (c * 198 + conditionrow) conditions# (suc t) few_conditions in
      let at : ℕ = get_or place (c * 198 + r) 0 in
      let u : suc t - 1 ≡ t = omega arith in
      ap (λ (x : ℕ). entry_from r (number x m (bit_and m c) at)) u
      ∙ entry_made r t m (bit_and m c) at k (omega (arith, and_le_l m c)) small
      ∙ (λ i. record { row = r; known = sym (known_mask c t h) i; values = sym (value_mask c t h) i; tick = t; place = at })

  every_link : (r c : ℕ) → r < rows p → c < count → map (entry_from r) (every r c) ≡ made_entries p r (plan_of p c)
  unfolding made_entries
  every_link r c l h = from (row_at r c (omega (arith, few_rows)) h)
    where
      from : Row p (log_of c) r (come r c) (get_or place (c * 198 + r) 0) → map (entry_from r) (every r c) ≡ map (entry_of p (numbered p c) (log_of c)) (of_row (log_of c) r)
      from (absent e z) = ap (map (entry_from r)) (row_absent comes place conditionrow conditions# [] lasting r c z) ∙ sym (ap (map (entry_of p (numbered p c) (log_of c))) e)
      from (stands t e z) =
          let n : come r c ≡ 0 → ⊥ = λ q. omega (arith, z, q) in
          let u : come r c - get_or lasting r 0 ≡ suc t = omega (arith, z, L.spans r l) in
          ap (map (entry_from r)) (row_own comes place conditionrow conditions# [] lasting r c n (omega arith) refl)
          ∙ ap (λ (x : ℕ). entry_from r (number_at comes place conditionrow conditions# c r x) ∷ []) u
          ∙ ap (λ (x : Entry). x ∷ []) (number_link r c t l h ((readable r c l h).placed n))
          ∙ sym (ap (map (entry_of p (numbered p c) (log_of c))) e)

  back_again : (r : ℕ) (xs : List ℕ) → map number_of_entry (map (entry_from r) xs) ≡ xs
  back_again r [] = refl
  back_again r (x ∷ xs) = λ i. number_back r x i ∷ back_again r xs i

  -- combinations with the same entry give the same number
  every_same : (r c d : ℕ) → r < rows p → c < count → d < count → made_entries p r (plan_of p c) ≡ made_entries p r (plan_of p d) → every r c ≡ every r d
  every_same r c d l h k e =
      sym (back_again r (every r c)) ∙ ap (map number_of_entry) (every_link r c l h ∙ e ∙ sym (every_link r d l k)) ∙ back_again r (every r d)

  -- A number taken over stands there already.
  abbrev ordered : (ℕ → List ℕ) → ℕ → List ℕ
  ordered f n = put_all (multiple 1) max (each f (below n)) []

  ordered_suc : (f : ℕ → List ℕ) (n : ℕ) → ordered f (n + 1) ≡ put_all (multiple 1) max (f n) (ordered f n)
  ordered_suc f n = ap (λ (xs : List ℕ). put_all (multiple 1) max xs []) (each_next f n) ∙ put_all_append (multiple 1) max (each f (below n)) (f n) []

  own_or_there : (r c : ℕ) → r < rows p → c < count → (own r c ≡ every r c) ⊎ ((own r c ≡ []) × ((x : ℕ) × (every r c ≡ x ∷ []) × In x (ordered (every r) c)))
  own_or_there r c l h = at (two (eqb (come r c) 0)) (two (ltb (come r c - get_or lasting r 0) (get_or since c 0)))
    where
      at : (eqb (come r c) 0 ≡ true) ⊎ (eqb (come r c) 0 ≡ false) →
          (ltb (come r c - get_or lasting r 0) (get_or since c 0) ≡ true) ⊎ (ltb (come r c - get_or lasting r 0) (get_or since c 0) ≡ false) →
          (own r c ≡ every r c) ⊎ ((own r c ≡ []) × ((x : ℕ) × (every r c ≡ x ∷ []) × In x (ordered (every r) c)))
      at (inl z) v =
          let q = eqb-true (come r c) 0 z in
          inl (row_absent comes place conditionrow conditions# since lasting r c q ∙ sym (row_absent comes place conditionrow conditions# [] lasting r c q))
      at (inr z) (inl v) =
          let n = eqb-false (come r c) 0 z in
          let u = ltb-true (come r c - get_or lasting r 0) (get_or since c 0) v in
          let d = L.taken_over r c l h n u in
          let x : ℕ = number_at comes place conditionrow conditions# c r (come r c - get_or lasting r 0) in
          let e : every r c ≡ x ∷ [] = row_own comes place conditionrow conditions# [] lasting r c n (omega arith) refl in
          let m : In x (every r d.0) = subst (In x) (sym e ∙ every_same r c d.0 l h (omega (arith, d.1)) d.2) (here refl) in
          let w = in_put_all (multiple 1) numbers_join x (each (every r) (below c)) (λ y k. tt) (in_each (every r) (in_below c d.0 d.1) m) in
          inr (row_taken_over comes place conditionrow conditions# since lasting r c n u, (x, e, subst (λ (z : ℕ). In z (ordered (every r) c)) (sym w.2) w.1))
      at (inr z) (inr v) =
          let n = eqb-false (come r c) 0 z in
          let u = ltb-false (come r c - get_or lasting r 0) (get_or since c 0) v in
          inl (row_own comes place conditionrow conditions# since lasting r c n u refl ∙ sym (row_own comes place conditionrow conditions# [] lasting r c n (omega arith) refl))

  own_every : (r n : ℕ) → r < rows p → n ≤ count → ordered (own r) n ≡ ordered (every r) n
  own_every r zero l h = refl
  own_every r (suc n) l h =
      let s : n + 1 ≡ suc n = omega arith in
      ap (ordered (own r)) (sym s) ∙ ordered_suc (own r) n ∙ ap (put_all (multiple 1) max (own r n)) (own_every r n l (omega arith))
      ∙ at (own_or_there r n l (omega arith))
      ∙ sym (ordered_suc (every r) n) ∙ ap (ordered (every r)) s
    where
      at : (own r n ≡ every r n) ⊎ ((own r n ≡ []) × ((x : ℕ) × (every r n ≡ x ∷ []) × In x (ordered (every r) n))) →
          put_all (multiple 1) max (own r n) (ordered (every r) n) ≡ put_all (multiple 1) max (every r n) (ordered (every r) n)
      at (inl e) = ap (λ (xs : List ℕ). put_all (multiple 1) max xs (ordered (every r) n)) e
      at (inr e) =
          ap (λ (xs : List ℕ). put_all (multiple 1) max xs (ordered (every r) n)) e.0
          ∙ put_nothing (ordered (every r) n)
          ∙ sym (put_one e.1.0 (ordered (every r) n) ∙ put_again e.1.0 (ordered (every r) n) (numbers_ascend 1 (each (every r) (below n)) [] tt) e.1.2)
          ∙ ap (λ (xs : List ℕ). put_all (multiple 1) max xs (ordered (every r) n)) (sym e.1.1)

  -- The entries of a row are what the numbers of the row stand for.
  each_plans : (r : ℕ) → each (made_entries p r) (plans p) ≡ each (λ c. made_entries p r (plan_of p c)) (below count)
  unfolding plans
  each_plans r =
      let mk : List Bool → Planned = λ c. record { combination = c; state = planned p c } in
      each_map (made_entries p r) mk (combinations p)
      ∙ ap (each (λ c. made_entries p r (mk c))) (sym (list_below [] (combinations p) count (combinations_count conditions#)))
      ∙ each_map (λ c. made_entries p r (mk c)) (λ c. numbered p c) (below count)

  pub row_link : (r : ℕ) → r < rows p →
      row_entries p (plans p) r
      ≡ map (entry_from r) (row_numbers comes place (length p.processes + length p.edges) (length p.conditions) since lasting (2 ^ length p.conditions) r)
  unfolding row_entries row_numbers
  row_link r l =
      ap (λ (es : List Entry). put_all key one_of_two es []) (
      each_plans r
      ∙ each_same (λ c. made_entries p r (plan_of p c)) (λ c. map (entry_from r) (every r c)) 0 count (λ c h. sym (every_link r c l (omega arith)))
      ∙ sym (map_each (entry_from r) (every r) (below count))
      )
      ∙ sym (entries_put r (each (every r) (below count)))
      ∙ ap (map (entry_from r)) (sym (own_every r count l (omega arith)))

  pub entries_link : (result p).entries
      ≡ each (λ r. map (entry_from r) (row_numbers comes place (length p.processes + length p.edges) (length p.conditions) since lasting (2 ^ length p.conditions) r)) (below (rows p))
  unfolding result
  entries_link = each_same (row_entries p (plans p)) _ 0 (rows p) (λ r h. row_link r (omega arith))

  -- The words written are the words of the table, five to an entry.
  module _ (list ends : List ℕ) (n : ℕ)
      (listed : Listed (row_numbers comes place (length p.processes + length p.edges) (length p.conditions) since lasting (2 ^ length p.conditions)) list ends (rows p) n) where
    pub words_link : entry_words (result p).entries ≡ table list ends (rows p)
    unfolding table
    words_link =
        ap entry_words entries_link
        ∙ words_each (λ r. row_numbers comes place conditionrow conditions# since lasting count r) (below (rows p))
        ∙ each_same (λ r. each (five r) (row_numbers comes place conditionrow conditions# since lasting count r)) (λ r. each (five r) (row_part list ends r)) 0 (rows p)
        (λ r h. ap (each (five r)) (sym (listed.parts r (omega arith))))

    pub words_count : length (entry_words (result p).entries) ≡ 5 * n
    words_count = ap length words_link ∙ table_length list ends (rows p) listed.laid ∙ ap (λ (k : ℕ). 5 * k) listed.last

    pub entries_count : length (result p).entries ≡ n
    entries_count = omega (arith, words_count, words_five (result p).entries)
