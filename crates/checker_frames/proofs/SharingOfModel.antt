-- For a plan in which refusals 2 to 9 find nothing and arrays that hold its plan index and the entries that a
-- combination meets, what `share_byte` answers is what refusal 19 says of the combination.
-- Assumes nothing.
use mathlib.Core.Path.{◌≡◌, refl, sym, ap, ◌∙◌}
use mathlib.Core.Bool.{Bool, true, false, not, ◌&&◌, ◌||◌, and_assoc}
use Prim.Native.Nat.{ℕ, ◌+◌, ◌-◌, ◌<◌, ◌≤◌}
use native.Mathlib.Omega.{arith}
use lib.Dec.{eqb, leb, ltb}
use lib.ListN.{get_or}
use borrow.Author.Tests.{eq-eqb, eqb-true, ltb-true, lt-ltb}
use Rattle.lists.specs.Lists.{any, upfrom}
use Rattle.lists.proofs.Tests.{both, same_test}
use Rattle.lists.proofs.Members.{any_or}
use Rattle.model.specs.Bus.{slot_of, rows, row_node, row_bytes}
use Rattle.model.specs.Log.{Placed}
use Rattle.model.specs.Checking.{apart, past_end, lie_together, share_byte}
use Rattle.log_queries.specs.Reading.{placed_by}
use Rattle.checker_rows.specs.MetArrays.{some, start_by}
use Rattle.checker_rows.proofs.LogRows.{some_same, and_same, any_rows, any_pairs}
use Rattle.checker_rows.proofs.MetPlan.{MetPlan, P#, log, items, at}
use Rattle.checker_rows.proofs.MetBounds.{node_in, items_to, to_items, start_tick}
use Rattle.checker_frames.specs.SharedBytes.{passes_by, lie_by, shares_by, share_by}

module _ (m : MetPlan) where
  open m use {plan as p, index as b, indexed as w, entries as es, combination as c, comes, place}

  -- refusal 19: an item and its slot's last byte, and two items of a frame
  passes_same : (r : ℕ) → r < rows p → passes_by b.rooms b.sender b.size place r ≡ past_end p (at m r)
  unfolding passes_by past_end
  passes_same r l =
      let o : get_or b.rooms (get_or b.sender r 0) 0 ≡ (slot_of p (row_node p r)).bytes = ap (λ (n : ℕ). get_or b.rooms n 0) (w.senders_of r l) ∙ w.rooms_of (row_node p r) (node_in p m.sound r l) in
      λ i. ltb (o i) (get_or place r 0 + w.bytes_of r l i)

  lie_lower : (x y : Placed) → lie_together p x y ≡ true → x.row < y.row
  unfolding lie_together
  lie_lower x y e =
      ltb-true _ _
      (both _ _
      (both (ltb x.row y.row && eqb x.tick y.tick) _
      (both (ltb x.row y.row && eqb x.tick y.tick && eqb (row_node p x.row) (row_node p y.row)) _ e).0).0).0

  tick_same : (i j : ℕ) → placed_by comes i ≡ true → placed_by comes j ≡ true → eqb (start_by comes b.span j) (start_by comes b.span i) ≡ eqb (at m j).tick (at m i).tick
  tick_same i j d e =
      let s = start_tick m i d in
      let t = start_tick m j e in
      same_test _ _
      (λ z. let y = eqb-true (start_by comes b.span j) (start_by comes b.span i) z in eq-eqb (at m j).tick (at m i).tick (omega arith))
      (λ z. let y = eqb-true (at m j).tick (at m i).tick z in eq-eqb (start_by comes b.span j) (start_by comes b.span i) (omega arith))

  lie_same : (i j : ℕ) → j < i → i < rows p → placed_by comes i ≡ true →
      lie_by b.sender b.size place comes b.span i j ≡ (placed_by comes j && lie_together p (at m j) (at m i))
  unfolding lie_by lie_together apart
  lie_same i j l u d =
      and_same (placed_by comes j) _ _ (λ e.
      let v : j < rows p = omega arith in
      let q : Bool = not (apart (get_or place j 0) (row_bytes p j) (get_or place i 0) (row_bytes p i)) in
      (λ k.
      tick_same i j d e k
      && (eqb (w.senders_of j v k) (w.senders_of i u k)
      && not (leb (get_or place j 0 + w.bytes_of j v k) (get_or place i 0) || leb (get_or place i 0 + w.bytes_of i u k) (get_or place j 0))))
      ∙ sym (and_assoc (eqb (at m j).tick (at m i).tick) (eqb (row_node p j) (row_node p i)) q)
      ∙ (λ k. ((sym (lt-ltb j i l) k && eqb (at m j).tick (at m i).tick) && eqb (row_node p j) (row_node p i)) && q))

  and_or : (a d e : Bool) → (a && (d || e)) ≡ ((a && d) || (a && e))
  and_or true d e = refl
  and_or false d e = refl

  shares_same : (i : ℕ) → P# m ≤ i → i < rows p →
      shares_by (P# m) b.rooms b.sender b.size place comes b.span i
      ≡ ((placed_by comes i && past_end p (at m i)) || (placed_by comes i && some (λ j. placed_by comes j && lie_together p (at m j) (at m i)) (P# m) i))
  unfolding shares_by
  shares_same i l u =
      and_same (placed_by comes i) _ _ (λ d. λ k. passes_same i u k || some_same (lie_by b.sender b.size place comes b.span i) (λ j. placed_by comes j && lie_together p (at m j) (at m i)) (P# m) i (λ j z v. lie_same i j v u d) k)
      ∙ and_or (placed_by comes i) (past_end p (at m i)) (some (λ j. placed_by comes j && lie_together p (at m j) (at m i)) (P# m) i)

  pub share_link : share_by b.processes b.rows b.rooms b.sender b.size place comes b.span ≡ share_byte p es c
  unfolding share_by share_byte
  share_link =
      (λ i. share_by (w.processes_count i) (w.row_count i) b.rooms b.sender b.size place comes b.span)
      ∙ some_same _ _ (P# m) (rows p) shares_same
      ∙ any_or (λ i. placed_by comes i && past_end p (at m i)) (λ i. placed_by comes i && some (λ j. placed_by comes j && lie_together p (at m j) (at m i)) (P# m) i) (upfrom (P# m) (rows p - P# m))
      ∙ (λ i.
      any_rows p (log m) comes place m.held (items m) (P# m) (rows p) (items_to m) (to_items m) (past_end p) i
      || any_pairs p (log m) comes place m.held (items m) (P# m) (rows p) (items_to m) (to_items m) (lie_together p) lie_lower i)
      ∙ sym (any_or (past_end p) (λ x. any (lie_together p x) (items m)) (items m))
