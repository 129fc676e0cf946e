-- What refusal 13 leaves of the entries that a combination meets, and so of the arrays that hold them: the bounds that
-- the functions ask for.
-- Assumes nothing.
use mathlib.Core.Path.{◌≡◌, sym, subst}
use mathlib.Core.Logic.{◌⊎◌, inl, inr}
use mathlib.Core.Bool.{true, false, not}
use mathlib.Core.List.{Memᴰ as In}
use Prim.Native.Nat.{ℕ, suc, ◌+◌, ◌^◌, ◌<◌, ◌≤◌}
use native.Mathlib.Omega.{arith}
use lib.Dec.{eqb}
use lib.ListN.{length, get_or}
use borrow.Author.Tests.{eqb-true, eqb-false, leb-false, le-ltb, ltb-false, not-true}
use Rattle.lists.proofs.Tests.{two, neither, is_not}
use Rattle.lists.proofs.Members.{none_in, in_keep, keep_in, in_map, map_in}
use Rattle.model.specs.Plan.{Lines}
use Rattle.model.specs.Activity.{all_heard}
use Rattle.model.specs.Bus.{rows, is_process, sender, row_node}
use Rattle.model.specs.Log.{Placed, full_ticks, span}
use Rattle.model.specs.Table.{Entry, column_met}
use Rattle.model.specs.Checking.{ill_formed, met_entries, met_log, own}
use Rattle.laws.proofs.Good.{Good}
use Rattle.laws.proofs.Rows.{sender_in}
use Rattle.log_queries.specs.Reading.{placed_by}
use Rattle.log_queries.proofs.Placing.{placed_is, row_stands}
use Rattle.checker_rows.specs.MetArrays.{start_by, Readable}
use Rattle.checker_rows.proofs.MetPlan.{MetPlan, P#, log, items, at}

-- the node of a row has a slot
pub node_in : (p : Lines) → Good p → (r : ℕ) → r < rows p → row_node p r < length p.slots
unfolding row_node
node_in p g r l = g.node_in (sender p r) (sender_in p g r l)

module _ (m : MetPlan) where
  open m use {plan as p, index as b, indexed as w, entries as es, combination as c, comes, place}

  formed_entry : (e : Entry) → In e (met_entries es c) → ill_formed p e ≡ false
  unfolding met_entries
  formed_entry e n = none_in (ill_formed p) m.formed (keep_in (column_met (all_heard c)) es n).0

  -- what 13 leaves of an entry
  pub entry_small : (e : Entry) → In e (met_entries es c) → (e.row < rows p) × (e.known < 2 ^ length p.conditions) × (e.tick ≤ 999999999) × (e.place ≤ 63)
  unfolding ill_formed
  entry_small e n =
      let a = neither _ _ (formed_entry e n) in
      let h = neither _ _ a.0 in
      let d = neither _ _ h.0 in
      let f = neither _ _ d.0 in
      let k = neither _ _ f.0 in
      let q = neither _ _ k.0 in
      (leb-false _ _ q.0, leb-false _ _ k.1, ltb-false _ _ d.1, ltb-false _ _ h.1)

  -- the same of the log
  pub log_entry : (x : Placed) → In x (log m) → (e : Entry) × In e (met_entries es c) × (x ≡ own e)
  unfolding met_log
  log_entry x n = map_in own (met_entries es c) n

  pub entry_log : (e : Entry) → In e (met_entries es c) → In (own e) (log m)
  unfolding met_log
  entry_log e n = in_map own n

  pub log_row : (x : Placed) → In x (log m) → x.row < rows p
  log_row x n = let t = log_entry x n in subst (λ (y : Placed). y.row < rows p) (sym t.2) (entry_small t.0 t.1).0

  -- the items of the log are what it has by the rows that are not of processes
  pub items_to : (x : Placed) → In x (items m) → In x (log m) × (P# m ≤ x.row) × (x.row < rows p)
  items_to x n = let k = keep_in (λ x. not (is_process p x.row)) (log m) n in (k.0, ltb-false _ _ (not-true _ k.1), log_row x k.0)

  pub to_items : (x : Placed) → In x (log m) → P# m ≤ x.row → x.row < rows p → In x (items m)
  to_items x n l u = in_keep (λ x. not (is_process p x.row)) n (is_not _ (le-ltb _ _ l))

  -- a met row: where it lies, its tick, its place, and when it is over
  pub met_row : (r : ℕ) → placed_by comes r ≡ true →
      (r < rows p) × ((at m r).tick ≤ 999999999) × (get_or place r 0 ≤ 63)
      × (get_or comes r 0 ≡ suc ((at m r).tick + span p (full_ticks p) r))
  met_row r e =
      let s = row_stands p (log m) comes place m.held r e in
      let t = log_entry (at m r) s.0 in
      let k = entry_small t.0 t.1 in (
        subst (λ (y : Placed). y.row < rows p) (sym t.2) k.0,
        subst (λ (y : Placed). y.tick ≤ 999999999) (sym t.2) k.2,
        subst (λ (y : Placed). y.place ≤ 63) (sym t.2) k.3,
        s.1,
      )

  -- a met row starts at the clock after its tick
  pub start_tick : (r : ℕ) → placed_by comes r ≡ true → start_by comes b.span r ≡ suc (at m r).tick
  unfolding start_by
  start_tick r e = let k = met_row r e in let s = w.spans r k.0 in omega (arith, k.3)

  pub readable : Readable comes b.span
  readable =
      record {
        soon = λ r. by r (two (eqb (get_or comes r 0) 0));
        lasts = λ r n. let k = met_row r (placed_is comes r n) in let s = w.spans r k.0 in omega (arith, k.3);
      }
    where
      by : (r : ℕ) → (eqb (get_or comes r 0) 0 ≡ true) ⊎ (eqb (get_or comes r 0) 0 ≡ false) → get_or comes r 0 ≤ 1000100000
      by r (inl e) = let z : get_or comes r 0 ≡ 0 = eqb-true _ _ e in omega arith
      by r (inr e) =
          let k = met_row r (placed_is comes r (eqb-false _ _ e)) in
          let s = w.spans r k.0 in
          omega (arith, k.1, k.3, w.span_most r)
