-- Of a plan in which refusals 2 to 9 find nothing the start table has at most 12,672 entries and the frame list at most
-- 8,576 frames: one entry for each row and combination, and one frame for each row of an item and combination. And its
-- worst delay is at most 999,999,999.
-- Assumes nothing.
use Rattle.std.specs.Prelude.{if◌then◌else◌}
use mathlib.Core.Path.{◌≡◌, sym, ap, ◌∙◌}
use mathlib.Core.Bool.{Bool, true, false, not}
use mathlib.Core.List.{List, [], ◌++◌, map, Memᴰ as In}
use Prim.Native.Nat.{ℕ, ◌+◌, ◌-◌, ◌*◌, ◌^◌, ◌≤◌, ◌<◌}
use native.Mathlib.Nat.{pow-le-pow_right}
use native.Mathlib.Omega.{arith}
use borrow.Author.Tests.{lt-ltb}
use lib.ListN.{length, length-map, length-append}
use Rattle.lists.specs.Lists.{keep, each, below, upfrom}
use Rattle.lists.proofs.Members.{map_in, keep_in, below_in, no_members}
use Rattle.lists.proofs.Keep.{keep_each, each_append, length_upfrom}
use Rattle.lists.proofs.Parts.{upfrom_append}
use Rattle.lists.proofs.Counts.{keep_short}
use Rattle.lists.proofs.Sums.{greatest_le, length_each}
use Rattle.model.specs.Plan.{Lines}
use Rattle.model.specs.Activity.{combinations}
use Rattle.model.specs.Bus.{rows, is_process}
use Rattle.model.specs.Log.{Log, of_row, placed, full_ticks, delay}
use Rattle.model.specs.Planning.{State, bound, planned}
use Rattle.model.specs.Refusals.{nothing, plan_refusal}
use Rattle.model.specs.Table.{Entry, entry_of, key, one_of_two, Planned, plans, made_entries, row_entries, frame_of, frame_key, wider, frames, result, entry_words, frame_words}
use Rattle.laws.proofs.Bound.{bound_small, delay_within}
use Rattle.laws.proofs.Combinations.{combination_length}
use Rattle.laws.proofs.Good.{good}
use Rattle.laws.proofs.Lawful.{count_one}
use Rattle.laws.proofs.Passed.{plan_in}
use Rattle.laws.proofs.Rules.{Kept}
use Rattle.laws.proofs.Safety.{planning_keeps}
use Rattle.laws.proofs.Words.{entry_words_count, frame_words_count}
use Rattle.bitset.proofs.Numbered.{combinations_count}
use Rattle.table_entries.proofs.Putting.{length_put_all}
use Rattle.table_frames.proofs.FramesOfModel.{row_of}

-- one part and then the rest, each part's lists of at most k
parts_most : {A : Type 0} (f : ℕ → List A) (m n k : ℕ) → m ≤ n → ((x : ℕ) → x < m → length (f x) ≤ 0) → ((x : ℕ) → length (f x) ≤ k) → length (each f (below n)) ≤ k * (n - m)
parts_most f m n k l first all =
    let q : n ≡ m + (n - m) = omega arith in
    let e : each f (below n) ≡ each f (below m) ++ each f (upfrom (0 + m) (n - m)) =
    ap (λ (j : ℕ). each f (below j)) q ∙ ap (each f) (upfrom_append 0 m (n - m)) ∙ each_append f (below m) (upfrom (0 + m) (n - m)) in
    let a : length (each f (below m)) ≤ 0 * length (below m) = length_each f (below m) 0 (λ x i. first x (below_in m i)) in
    let b : length (each f (upfrom (0 + m) (n - m))) ≤ k * length (upfrom (0 + m) (n - m)) = length_each f (upfrom (0 + m) (n - m)) k (λ x i. all x) in
    let c : k * length (upfrom (0 + m) (n - m)) ≡ k * (n - m) = ap (λ (j : ℕ). k * j) (length_upfrom (0 + m) (n - m)) in
    omega (arith, ap length e, length-append (each f (below m)) (each f (upfrom (0 + m) (n - m))))

module _ (p : Lines) (fine : plan_refusal p ≡ nothing) where
  -- six conditions have 64 combinations
  plans_few : length (plans p) ≤ 64
  unfolding plans
  plans_few =
      let q : 2 ^ length p.conditions ≤ 2 ^ 6 = pow-le-pow_right (omega arith) (good p fine).few_conditions in
      let n : length (plans p) ≡ length (combinations p) = length-map (combinations p) (λ c. record { combination = c; state = planned p c }) in
      omega (arith, combinations_count (length p.conditions))

  -- the worst delay of all combinations is within document 01's bound, and so a tick that a table can name
  pub delay_bounded : (result p).delay ≤ bound p
  unfolding result
  delay_bounded =
      greatest_le (λ s. delay p (full_ticks p) s.state.log) (bound p) (plans p) (λ s i.
      let c = plan_in p s i in
      omega (arith, ap (λ (z : State). delay p (full_ticks p) z.log) c.2, delay_within p c.0 fine c.1))

  pub delay_most : (result p).delay ≤ 999999999
  delay_most = omega (arith, delay_bounded, bound_small p (good p fine))

  -- a combination has one entry of a row at most
  log_one : (s : Planned) → In s (plans p) → (r : ℕ) → length (made_entries p r s) ≤ 1
  unfolding plans made_entries planned
  log_one s i r =
      let c = map_in (λ c. record { combination = c; state = planned p c }) (combinations p) i in
      let k : Kept p c.0 (planned p c.0).log = planning_keeps p c.0 fine (combination_length p c.0 c.1) (bound p) in
      let n : length (of_row (planned p c.0).log r) ≡ (if placed (planned p c.0).log r then 1 else 0) = count_one (planned p c.0).log r k.once in
      let q : s.state.log ≡ (planned p c.0).log = ap (λ (z : Planned). z.state.log) c.2 in
      omega (arith, length-map (of_row s.state.log r) (entry_of p s.combination s.state.log), ap (λ (l : Log). length (of_row l r)) q, one (placed (planned p c.0).log r))
    where
      one : (b : Bool) → (if b then 1 else 0) ≤ 1
      one true = omega arith
      one false = omega arith

  -- a row has at most one entry for each combination
  row_most : (r : ℕ) → length (row_entries p (plans p) r) ≤ 64
  unfolding row_entries
  row_most r =
      omega (arith, length_put_all key one_of_two (each (made_entries p r) (plans p)) [], length_each (made_entries p r) (plans p) 1 (λ s i. log_one s i r), plans_few)

  -- what no process starts
  abbrev item : Entry → Bool
  item e = not (is_process p e.row)

  none_started : (r : ℕ) → r < length p.processes → length (keep item (row_entries p (plans p) r)) ≤ 0
  none_started r l =
      let e : keep item (row_entries p (plans p) r) ≡ [] =
      no_members (keep item (row_entries p (plans p) r)) (λ e i.
      let k = keep_in item (row_entries p (plans p) r) i in
      let q : is_process p e.row ≡ true = lt-ltb e.row (length p.processes) (omega (arith, row_of p r e k.0)) in
      let z : ◌≡◌ {A = Bool} true false = sym k.1 ∙ ap not q in
      let w : ◌≡◌ {A = ℕ} 0 1 = cc in
      omega arith) in
      omega (arith, ap length e)

  pub entries_most : length (result p).entries ≤ 12672
  unfolding result
  entries_most =
      let g = good p fine in
      omega (arith, length_each (row_entries p (plans p)) (below (rows p)) 64 (λ r i. row_most r), length_upfrom 0 (rows p), g.few_processes, g.few_edges, g.few_conditions)

  pub frames_most : length (result p).frames ≤ 8576
  unfolding result frames
  frames_most =
      let g = good p fine in
      let es : List Entry = each (row_entries p (plans p)) (below (rows p)) in
      let kept : List Entry = keep item es in
      let a : length kept ≤ 64 * (rows p - length p.processes) =
      omega (
        arith,
        ap length (keep_each item (row_entries p (plans p)) (below (rows p))),
        parts_most (λ r. keep item (row_entries p (plans p) r)) (length p.processes) (rows p) 64 (omega arith) none_started
            (λ r. (let m = keep_short item (row_entries p (plans p) r) in let n = row_most r in omega arith)),
      ) in
      omega (arith, length_put_all frame_key wider (map (frame_of p) kept) [], length-map kept (frame_of p), g.few_edges, g.few_conditions)

  -- as words
  pub entries_cap : length (entry_words (result p).entries) ≤ 63360
  entries_cap = omega (arith, entry_words_count (result p).entries, entries_most)

  pub frames_cap : length (frame_words (result p).frames) ≤ 25728
  frames_cap = omega (arith, frame_words_count (result p).frames, frames_most)
