-- For a plan in which refusals 2 to 9 find nothing and arrays that hold its plan index and the entries that a
-- combination meets, what the definitions of this crate say is what refusals 15, 17 and 18 say of the combination.
-- Assumes nothing.
use mathlib.Core.Path.{◌≡◌, sym, ap, ◌∙◌}
use mathlib.Core.Bool.{Bool, true, not, ◌&&◌, ◌||◌}
use mathlib.Core.List.{Memᴰ as In}
use Prim.Native.Nat.{ℕ, suc, ◌+◌, ◌-◌, ◌^◌, ◌<◌, ◌≤◌}
use native.Mathlib.Omega.{arith}
use lib.Bits.{bit_and}
use lib.Dec.{eqb, leb, ltb}
use lib.ListN.{length, get_or}
use lib.Pow.{pow_mono}
use borrow.Author.Tests.{leb-true, le-leb, ltb-true, lt-ltb}
use Rattle.lists.specs.Lists.{any, keep}
use Rattle.lists.proofs.Tests.{both, join, same_test}
use Rattle.lists.proofs.Members.{any_in, in_any, in_keep, keep_in}
use Rattle.model.specs.Plan.{process, unit}
use Rattle.model.specs.Bus.{first_beginning, begins, rows, is_process, row_node}
use Rattle.model.specs.Log.{Placed, Log, full_ticks, span}
use Rattle.model.specs.Table.{Entry, bits_within}
use Rattle.model.specs.Checking.{met_entries, own, column_unknown, uses_unknown, off_beginning, off_slot, apart, run_together, overlap}
use Rattle.laws.proofs.Rows.{full_tick, process_span}
use Rattle.bus_timetable.specs.Bus.{beginning_at}
use Rattle.log_queries.specs.Reading.{placed_by, known_by}
use Rattle.log_queries.proofs.Placing.{row_stands, stands_row}
use Rattle.log_queries.proofs.Readings.{known_link}
use Rattle.checker_rows.specs.MetArrays.{some, start_by}
use Rattle.checker_rows.proofs.LogRows.{some_in, in_some, some_same, and_same, any_keep, any_rows, any_pairs}
use Rattle.checker_rows.proofs.MetPlan.{MetPlan, P#, T#, log, items, at, conditionrow_same}
use Rattle.checker_rows.proofs.MetBounds.{node_in, entry_small, log_entry, entry_log, items_to, to_items, start_tick}
use Rattle.checker_rules.specs.Rules.{row_uses_unknown_by, uses_unknown_by, off_by, off_slot_by, together_by, overlaps_by, overlap_by}
use Rattle.checker_rules.proofs.Bits.{shared_within}

module _ (m : MetPlan) where
  open m use {plan as p, index as b, indexed as w, entries as es, combination as c, comes, place, bits}

  -- refusal 15: a column that uses more than what is known by a met row's tick
  abbrev uses : ℕ → Bool
  uses r = not (eqb (bit_and (get_or bits r 0) (known_by comes (T# m) (length p.conditions) (start_by comes b.span r))) (get_or bits r 0))

  row_uses_unknown_same : (e : Entry) → In e (met_entries es c) → column_unknown p c (log m) e ≡ uses e.row
  unfolding column_unknown
  row_uses_unknown_same e n =
      let s = stands_row p (log m) comes place m.held (own e) (entry_log m e n) in
      let k = entry_small m e n in
      let t : start_by comes b.span e.row ≡ suc e.tick = start_tick m e.row s.1 ∙ ap (λ (x : Placed). suc x.tick) (sym s.0) in
      let l : e.known < 2 ^ 32 = (let q : 2 ^ length p.conditions ≤ 2 ^ 32 = pow_mono {i = length p.conditions} {j = 32} (let f = m.sound.few_conditions in omega arith) in let z = k.1 in omega arith) in
      ap not (ap (bits_within 32 e.known) (known_link p (log m) comes place m.held c e.tick) ∙ sym (shared_within 32 e.known (known_by comes (T# m) (length p.conditions) (suc e.tick)) l))
      ∙ (λ i. not (eqb (bit_and (sym (m.columns e n) i) (known_by comes (T# m) (length p.conditions) (sym t i))) (sym (m.columns e n) i)))

  uses_unknown_rows : some (λ r. placed_by comes r && uses r) 0 (rows p) ≡ any (column_unknown p c (log m)) (met_entries es c)
  uses_unknown_rows =
      same_test _ _
      (λ e.
      let k = some_in _ 0 (rows p) e in
      let r : ℕ = k.0 in
      let d = both (placed_by comes r) _ k.3 in
      let t = log_entry m (at m r) (row_stands p (log m) comes place m.held r d.0).0 in
      in_any (column_unknown p c (log m)) t.1 (row_uses_unknown_same t.0 t.1 ∙ sym (ap (λ (x : Placed). uses x.row) t.2) ∙ d.1))
      (λ e.
      let k = any_in (column_unknown p c (log m)) (met_entries es c) e in
      let s = stands_row p (log m) comes place m.held (own k.0) (entry_log m k.0 k.1) in
      in_some (λ r. placed_by comes r && uses r) 0 (rows p) k.0.row (omega arith) (entry_small m k.0 k.1).0
      (join _ _ s.1 (sym (row_uses_unknown_same k.0 k.1) ∙ k.2)))

  pub uses_unknown_link : uses_unknown_by comes b.span bits b.conditionrow b.conditions b.rows ≡ uses_unknown p es c
  unfolding uses_unknown_by row_uses_unknown_by uses_unknown
  uses_unknown_link = (λ i. uses_unknown_by comes b.span bits (conditionrow_same m i) (w.conditions_count i) (w.row_count i)) ∙ uses_unknown_rows

  -- the starts of the log are what it has by the rows of processes
  abbrev starts : Log
  starts = keep (λ x. is_process p x.row) (log m)

  starts_to : (x : Placed) → In x starts → In x (log m) × (0 ≤ x.row) × (x.row < P# m)
  starts_to x n = let k = keep_in (λ x. is_process p x.row) (log m) n in (k.0, omega arith, ltb-true _ _ k.1)

  to_starts : (x : Placed) → In x (log m) → 0 ≤ x.row → x.row < P# m → In x starts
  to_starts x n l u = in_keep (λ x. is_process p x.row) n (lt-ltb _ _ u)

  -- refusal 17: an item's tick and the first beginning of its sender's slot from there on
  begin_same : (r : ℕ) → r < rows p → placed_by comes r ≡ true →
      beginning_at b.round (get_or b.offset (get_or b.sender r 0) 0) (start_by comes b.span r - 1) ≡ first_beginning p (row_node p r) (at m r).tick
  unfolding beginning_at first_beginning
  begin_same r l e =
      let t : start_by comes b.span r - 1 ≡ (at m r).tick = (let s = start_tick m r e in omega arith) in
      let o : get_or b.offset (get_or b.sender r 0) 0 ≡ _ = ap (λ (n : ℕ). get_or b.offset n 0) (w.senders_of r l) ∙ w.offsets (row_node p r) (node_in p m.sound r l) in
      λ i. beginning_at (w.rounds i) (o i) (t i)

  off_same : (r : ℕ) → P# m ≤ r → r < rows p → off_by b.round b.offset b.sender comes b.span r ≡ (placed_by comes r && not (begins p (row_node p r) (at m r).tick))
  unfolding off_by begins
  off_same r l u =
      and_same (placed_by comes r) _ _ (λ e.
      let t : start_by comes b.span r - 1 ≡ (at m r).tick = (let s = start_tick m r e in omega arith) in
      λ i. not (eqb (begin_same r u e i) (t i)))

  pub off_slot_link : off_slot_by b.processes b.rows b.round b.offset b.sender comes b.span ≡ off_slot p es c
  unfolding off_slot_by off_slot off_beginning
  off_slot_link =
      (λ i. off_slot_by (w.processes_count i) (w.row_count i) b.round b.offset b.sender comes b.span)
      ∙ some_same _ _ (P# m) (rows p) off_same
      ∙ any_rows p (log m) comes place m.held (items m) (P# m) (rows p) (items_to m) (to_items m) (λ x. not (begins p (row_node p x.row) x.tick))
      ∙ any_keep (λ x. not (is_process p x.row)) (λ x. not (begins p (row_node p x.row) x.tick)) (log m)

  -- refusal 18: two starts on a node
  run_lower : (x y : Placed) → run_together p x y ≡ true → x.row < y.row
  unfolding run_together
  run_lower x y e = ltb-true _ _ (both _ _ (both (ltb x.row y.row && eqb (unit p x.row) (unit p y.row)) _ e).0).0

  -- a process lasts its ticks
  ticks_same : (i : ℕ) → i < P# m → span p (full_ticks p) i ≡ (process p i).ticks
  ticks_same i l = process_span p (full_ticks p) i l ∙ full_tick p i

  -- a row's end against another's start
  end_same : (i j : ℕ) → placed_by comes i ≡ true → placed_by comes j ≡ true → j < P# m → leb (get_or comes j 0) (start_by comes b.span i) ≡ leb ((at m j).tick + (process p j).ticks) (at m i).tick
  end_same i j d e l =
      let s = start_tick m i d in
      let k = (row_stands p (log m) comes place m.held j e).1 in
      let q = ticks_same j l in
      same_test _ _
      (λ z. let y = leb-true (get_or comes j 0) (start_by comes b.span i) z in le-leb ((at m j).tick + (process p j).ticks) (at m i).tick (omega arith))
      (λ z. let y = leb-true ((at m j).tick + (process p j).ticks) (at m i).tick z in le-leb (get_or comes j 0) (start_by comes b.span i) (omega arith))

  together_same : (i j : ℕ) → j < i → i < P# m → placed_by comes i ≡ true →
      together_by b.node comes b.span i j ≡ (placed_by comes j && run_together p (at m j) (at m i))
  unfolding together_by run_together apart unit
  together_same i j l u d =
      and_same (placed_by comes j) _ _ (λ e.
      (λ k. eqb (w.nodes j k) (w.nodes i k) && not (end_same i j d e (omega arith) k || end_same j i e d u k))
      ∙ (λ k. (sym (lt-ltb j i l) k && eqb (process p j).node (process p i).node) && not (apart (at m j).tick (process p j).ticks (at m i).tick (process p i).ticks)))

  overlaps_same : (i : ℕ) → 0 ≤ i → i < P# m →
      overlaps_by b.node comes b.span i ≡ (placed_by comes i && some (λ j. placed_by comes j && run_together p (at m j) (at m i)) 0 i)
  unfolding overlaps_by
  overlaps_same i l u = and_same (placed_by comes i) _ _ (λ d. some_same _ _ 0 i (λ j z v. together_same i j v u d))

  pub overlap_link : overlap_by b.processes b.node comes b.span ≡ overlap p es c
  unfolding overlap_by overlap
  overlap_link =
      (λ i. overlap_by (w.processes_count i) b.node comes b.span)
      ∙ some_same _ _ 0 (P# m) overlaps_same
      ∙ any_pairs p (log m) comes place m.held starts 0 (P# m) starts_to to_starts (run_together p) run_lower
