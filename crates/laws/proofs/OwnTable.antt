-- The planner's own table is sound, a run of it is right within its delay and exact, and its frames ascend.
-- Assumes nothing.
use mathlib.Core.Path.{◌≡◌, refl, sym, ap, ◌∙◌, subst}
use mathlib.Core.Logic.{◌⊎◌, inl, inr}
use mathlib.Core.Bool.{Bool, true, false, not, ◌&&◌}
use mathlib.Core.List.{List, [], map, Memᴰ as In}
use Prim.Native.Nat.{ℕ, ◌+◌, ◌^◌, ◌≤◌, ◌<◌}
use native.Mathlib.Omega.{arith}
use lib.ListN.{length}
use borrow.Author.Tests.{ltb-true, ltb-false, le-ltb, lt-leb, not-true}
use Rattle.lists.specs.Lists.{greatest, repeated}
use Rattle.lists.proofs.Tests.{two, both, or_none, and_none, no}
use Rattle.lists.proofs.Members.{map_same, any_members, keep_in}
use Rattle.lists.proofs.Keep.{map_map}
use Rattle.lists.specs.Ordered.{Ascending}
use Rattle.lists.proofs.Order.{ascending_keep, ascending_different, put_all_ascends}
use Rattle.lists.proofs.Sums.{greatest_le, greatest_in}
use Rattle.model.specs.Plan.{Lines, local}
use Rattle.model.specs.Activity.{Heard, all_heard, combinations, carries}
use Rattle.model.specs.Bus.{slot_of, rows, is_process, is_edge, row_edge, edge_row, row_node, row_bytes, sender}
use Rattle.model.specs.Log.{Placed, Log, full_ticks, over, placed, process_end, delay}
use Rattle.model.specs.Planning.{bound, planned}
use Rattle.model.specs.Refusals.{nothing, plan_refusal}
use Rattle.model.specs.Table.{Entry, known_bits, bits_within, column_met, entry_of, key, Planned, plans, frame_key, wider, frames, result, entry_words}
use Rattle.model.specs.Checking.{ill_formed, own, met_entries, met_log, due, greatest_delay, Sound}
use Rattle.model.specs.Run.{Ask}
use Rattle.model.specs.Demand.{Answered, RunsRight}
use Rattle.laws.proofs.Bound.{bound_small}
use Rattle.laws.proofs.Columns.{within_same, values_within, known_small}
use Rattle.laws.proofs.Combinations.{combination_length}
use Rattle.laws.proofs.Demand.{sound_runs_right}
use Rattle.laws.proofs.Entries.{final, Made, entries_in, entries_ascend, met_made, made_in, made_met, one_a_row}
use Rattle.laws.proofs.Good.{Good, good}
use Rattle.laws.proofs.History.{history, was_started}
use Rattle.laws.proofs.Lawful.{met_of, to_met}
use Rattle.laws.proofs.Progress.{everything_over}
use Rattle.laws.proofs.Rows.{edge_due, edge_bytes, condition_bytes, Kind, a_process, an_edge, a_condition, kind, sender_in, in_placed, done_by, known_by, known_length}
use Rattle.laws.proofs.Rules.{Start, Item, Kept, Lawful}
use Rattle.laws.proofs.Safety.{planning_keeps}
use Rattle.laws.proofs.Slots.{slot_in}
use Rattle.laws.proofs.Sound.{sound_iff}
use Rattle.laws.proofs.Words.{entries_back, entry_words_count}

-- an item has at least one byte, in a slot of at most 64
pub item_bytes : (p : Lines) → Good p → (r : ℕ) → length p.processes ≤ r → r < rows p → 1 ≤ row_bytes p r
item_bytes p g r u l = at r (kind p r l) u
  where
    at : (r : ℕ) → Kind p r → length p.processes ≤ r → 1 ≤ row_bytes p r
    at r (a_process i l) u = absurd (omega arith)
    at r (an_edge e l) u = omega (arith, edge_bytes p e l, g.edge_one e l)
    at r (a_condition k l) u = omega (arith, condition_bytes p k)

pub slot_bytes : (p : Lines) → Good p → (r : ℕ) → r < rows p → (slot_of p (row_node p r)).bytes ≤ 64
unfolding row_node
slot_bytes p g r l = g.slot_most _ (slot_in p g (sender p r) (sender_in p g r l))

-- Logs with the same members say the same of what is over, and keep the same rules if rows are different.
module _ (p : Lines) (M F : Log) (to : (x : Placed) → In x M → In x F) (back : (x : Placed) → In x F → In x M) where
  row_over : (t r : ℕ) → done_by p M t r ≡ done_by p F t r
  unfolding over
  row_over t r = any_members _ M F to back

  same_over : (t : ℕ) → done_by p M t ≡ done_by p F t
  same_over t = λ i r. row_over t r i

  start : {x : Placed} → Start p M x → Start p F x
  start {x} s = record { member = to x s.member; low = s.low }

  item : {x : Placed} → Item p M x → Item p F x
  item {x} s = record { member = to x s.member; high = s.high }

  same_keeps : (c : List Bool) → repeated (map (λ x. x.row) M) ≡ false → Kept p c F → Kept p c M
  same_keeps c once k =
      record {
        once = once;
        only_due = λ x m. k.only_due x (to x m);
        after_inputs = λ x m e n q. rw (same_over x.tick) (k.after_inputs x (start m) e n q);
        after_sender = λ x m. rw (same_over x.tick) (k.after_sender x (item m));
        when_met = λ x m e l q. rw (same_over x.tick) (k.when_met x (to x m) e l q);
        in_slot = λ x m. k.in_slot x (item m);
        no_overlap = λ x y m n. k.no_overlap x y (start m) (start n);
        in_frame = λ x m. k.in_frame x (item m);
        no_share = λ x y m n. k.no_share x y (item m) (item n);
      }

  same_delay : delay p (full_ticks p) M ≡ delay p (full_ticks p) F
  unfolding delay
  same_delay =
      let end : Placed → ℕ = process_end p (full_ticks p) in
      let a : greatest (map end M) ≤ greatest (map end F) = greatest_le end _ M (λ x m. greatest_in end F x (to x m)) in
      let b : greatest (map end F) ≤ greatest (map end M) = greatest_le end _ F (λ x m. greatest_in end M x (back x m)) in
      omega arith

module _ (p : Lines) (fine : plan_refusal p ≡ nothing) where
  abbrev E : List Entry
  E = (result p).entries

  g : Good p
  g = good p fine

  module _ (c : List Bool) (cl : length c ≡ length p.conditions) where
    abbrev F : Log
    F = final p c

    abbrev M : Log
    M = met_log (result p).entries c

    keeps : Kept p c F
    keeps = planning_keeps p c fine cl (bound p)

    -- 13
    module _ (x : Placed) (m : In x F) where
      row_in : x.row < rows p
      row_in = (keeps.only_due x m).0

      place_in : x.place ≤ 63
      place_in = at (two (is_process p x.row))
        where
          at : (is_process p x.row ≡ true) ⊎ (is_process p x.row ≡ false) → x.place ≤ 63
          at (inl e) = omega (arith, (was_started p c (bound p) x m (ltb-true _ _ e)).first_place)
          at (inr e) =
              let u : length p.processes ≤ x.row = ltb-false _ _ e in
              omega (arith, keeps.in_frame x (record { member = m; high = u }), slot_bytes p g x.row row_in, item_bytes p g x.row u row_in)

      not_local : (not (is_process p x.row) && is_edge p x.row) ≡ true → local p (row_edge p x.row) ≡ false
      not_local b =
          let q = both (not (is_process p x.row)) (is_edge p x.row) b in
          let u : length p.processes ≤ x.row = ltb-false _ _ (not-true _ q.0) in
          let v : x.row < length p.processes + length p.edges = ltb-true _ _ q.1 in
          let e : ℕ = row_edge p x.row in
          let r : x.row ≡ edge_row p e = omega arith in
          not-true _ (both (carries p c e) (not (local p e)) (sym (edge_due p c e (omega arith)) ∙ ap (due p c) (sym r) ∙ (keeps.only_due x m).1)).1

      well_formed : ill_formed p (entry_of p c F x) ≡ false
      unfolding ill_formed entry_of
      well_formed =
          let h : List Heard = known_by p c F x.tick in
          let k : known_bits h < 2 ^ length p.conditions = rw (known_length p c (done_by p F x.tick)) at (known_small h) in
          or_none (or_none (or_none (or_none (or_none (or_none
          (lt-leb (rows p) x.row row_in)
          (and_none _ _ not_local))
          (lt-leb (2 ^ length p.conditions) (known_bits h) k))
          (no (values_within 32 h)))
          (le-ltb 999999999 x.tick (omega (arith, (history p c (bound p) x m).0, bound_small p g))))
          (le-ltb 63 x.place place_in))
          (and_none (is_process p x.row) _ (λ e. le-ltb 0 x.place (omega (arith, (was_started p c (bound p) x m (ltb-true _ _ e)).first_place))))

    -- the met log has the members of the planner's log
    met_in : (x : Placed) → In x M → In x F
    unfolding entry_of
    met_in x m =
        let e = met_of E c x m in
        let s : Made p c e.0 = met_made p g c cl e.0 e.1 e.2 in
        subst (λ (z : Placed). In z F) (sym (e.3 ∙ ap own s.is_its)) s.member

    in_met : (x : Placed) → In x F → In x M
    unfolding entry_of
    in_met x m =
        let s : Made p c (entry_of p c F x) = record { item = x; member = m; is_its = refl } in
        to_met E c (entry_of p c F x) (made_in p g c cl (entry_of p c F x) s) (made_met p g c cl (entry_of p c F x) s)

    rows_met : repeated (map (λ x. x.row) M) ≡ false
    unfolding met_log met_entries
    rows_met =
        subst (λ (l : List ℕ). repeated l ≡ false) (sym (map_map (λ (x : Placed). x.row) own (met_entries E c)))
        (ascending_different key (λ e. e.row) (met_entries E c) (ascending_keep key (column_met (all_heard c)) E (entries_ascend p)) (λ e f m n q.
        let a = keep_in (column_met (all_heard c)) E m in
        let b = keep_in (column_met (all_heard c)) E n in
        one_a_row p g c cl e f (met_made p g c cl e a.0 a.1) (met_made p g c cl f b.0 b.1) q))

    uses_known : (e : Entry) → In e E → column_met (all_heard c) e ≡ true → bits_within 32 e.known (known_bits (known_by p c M e.tick)) ≡ true
    unfolding entry_of
    uses_known e m q =
        let s : Made p c e = met_made p g c cl e m q in
        subst (λ (z : Entry). bits_within 32 z.known (known_bits (known_by p c M z.tick)) ≡ true) (sym s.is_its)
        (rw (same_over p M F met_in in_met s.item.tick) (within_same 32 (known_bits (known_by p c F s.item.tick))))

    all_met : (r : ℕ) → r < rows p → due p c r ≡ true → placed M r ≡ true
    unfolding planned
    all_met r l d = let x = everything_over p c g cl r l d in in_placed (in_met x.0 x.1) r x.2

  -- 20
  own_delay : (result p).delay ≡ greatest_delay p E
  unfolding greatest_delay result plans planned
  own_delay =
      ap greatest (map_map (λ (s : Planned). delay p (full_ticks p) s.state.log) (λ c. record { combination = c; state = planned p c }) (combinations p)
      ∙ map_same _ (λ c. delay p (full_ticks p) (met_log E c)) (combinations p) (λ c m.
      let cl = combination_length p c m in
      sym (same_delay p (M c cl) (F c cl) (met_in c cl) (in_met c cl))))

  own_lawful : Lawful p E (result p).delay
  own_lawful =
      record {
        formed = λ e m. let d = entries_in p e m in let s : Made p d.0 e = d.2 in ap (ill_formed p) s.is_its ∙ well_formed d.0 d.1 s.item s.member;
        keeps = λ c cl. same_keeps p (M c cl) (F c cl) (met_in c cl) (in_met c cl) c (rows_met c cl) (keeps c cl);
        all_there = all_met;
        known_columns = uses_known;
        worst = own_delay;
      }

pub own_table_sound : (p : Lines) → plan_refusal p ≡ nothing → Sound p (entry_words (result p).entries) (result p).delay
own_table_sound p fine =
    let es : List Entry = (result p).entries in
    (sound_iff p (entry_words es) (result p).delay).1 (fine, (let q = entry_words_count es in omega arith), rw (entries_back es) (own_lawful p fine))

pub planned_runs : (p : Lines) (ask : Ask) → plan_refusal p ≡ nothing → Answered p (entry_words (result p).entries) ask → RunsRight p (entry_words (result p).entries) (result p).delay ask
planned_runs p ask fine told = sound_runs_right p (entry_words (result p).entries) (result p).delay ask (own_table_sound p fine) told

pub frames_ascend : (p : Lines) → Ascending frame_key (result p).frames
unfolding result frames frame_key wider
frames_ascend p = put_all_ascends frame_key wider (λ f g o. refl) _ [] tt
