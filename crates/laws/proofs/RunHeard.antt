-- In a run by a table that keeps the rules every item is sent when it is ready: each counts, what is heard is what the
-- table says is known, and what has delivered by the table has delivered in the run.
-- Assumes nothing.
use Rattle.std.specs.Prelude.{if◌then◌else◌}
use mathlib.Core.Path.{◌≡◌, sym, ap, ◌∙◌, subst}
use mathlib.Core.Logic.{◌⊎◌, inl, inr}
use mathlib.Core.Bool.{Bool, true, false, not, ◌||◌}
use mathlib.Core.List.{List, Memᴰ as In}
use Prim.Native.Nat.{ℕ, ◌+◌, ◌≤◌, ◌<◌}
use native.Mathlib.Omega.{arith}
use lib.ListN.{length, get_or}
use borrow.Author.Tests.{ltb-true, ltb-false}
use Rattle.lists.proofs.Tests.{two, both, join, is_not, or_left, or_right, same_test}
use Rattle.lists.proofs.Members.{in_keep, keep_in}
use Rattle.lists.proofs.Keep.{map_upfrom}
use Rattle.model.specs.Plan.{Lines, edge, local}
use Rattle.model.specs.Activity.{heard, unheard, meets}
use Rattle.model.specs.Bus.{rows, is_process, is_edge, row_edge, row_condition, edge_row, condition_row, sender}
use Rattle.model.specs.Log.{Placed, Log, full_ticks, span, over, known, message_ready, broadcast_ready, delivered}
use Rattle.model.specs.Run.{told_when_ready, told, sent_when_ready, counting, hears}
use Rattle.model.specs.Demand.{delivers, Within}
use Rattle.laws.proofs.Good.{Good}
use Rattle.laws.proofs.Rows.{edge_sender, condition_sender, sender_in, full_tick, process_span, item_span, span_one, over_in, in_over, done_by, known_by}
use Rattle.laws.proofs.Rules.{Kept}

-- a log has of M what lies before T
pub record Upto (p : Lines) (M log : Log) (T : ℕ) : Type 0 where
  pub to : (x : Placed) → In x M → x.tick < T → In x log
  pub from : (x : Placed) → x.row < rows p → In x log → In x M

module _ (p : Lines) (c : List Bool) (g : Good p) (times : List ℕ) (within : Within p times) (M : Log) (T : ℕ) where
  -- no row lasts longer than with full ticks
  span_most : (r : ℕ) → span p times r ≤ span p (full_ticks p) r
  span_most r = at (two (is_process p r))
    where
      at : (is_process p r ≡ true) ⊎ (is_process p r ≡ false) → span p times r ≤ span p (full_ticks p) r
      at (inl e) =
          let l : r < length p.processes = ltb-true _ _ e in
          omega (arith, process_span p times r l, process_span p (full_ticks p) r l, full_tick p r, within.bounded r l)
      at (inr e) = let l : length p.processes ≤ r = ltb-false _ _ e in omega (arith, item_span p times r l, item_span p (full_ticks p) r l)

  -- what is over by M is over in such a log, and items are over just then
  module _ (log : Log) (part : Upto p M log T) (t : ℕ) (u : t ≤ T) where
    over_too : (r : ℕ) → r < rows p → done_by p M t r ≡ true → over p times log t r ≡ true
    over_too r l e =
        let y = over_in p (full_ticks p) M t r e in
        let k = y.3 in
        in_over p times t r (part.to y.0 y.1 (omega (arith, span_one p g r l))) y.2 (omega (arith, span_most r))

    same_item : (r : ℕ) → length p.processes ≤ r → r < rows p → over p times log t r ≡ done_by p M t r
    same_item r h l =
        same_test _ _
        (λ e.
        let y = over_in p times log t r e in
        let k = y.3 in
        in_over p (full_ticks p) t r (part.from y.0 (rw y.2 l) y.1) y.2 (omega (arith, item_span p times r h, item_span p (full_ticks p) r h)))
        (over_too r l)

    same_known : known p c (over p times log t) ≡ known_by p c M t
    unfolding known
    same_known =
        map_upfrom _ _ 0 (length p.conditions)
        (λ k lo hi. ap (λ (b : Bool). if b then heard (get_or c k false) else unheard) (same_item (condition_row p k) (omega arith) (omega arith)))

  module _ (keeps : Kept p c M) (N : Log) (part : Upto p M N T) where
    module _ (x : Placed) (m : In x M) (b : x.tick < T) where
      row_in : x.row < rows p
      row_in = (keeps.only_due x m).0

      sender_over : length p.processes ≤ x.row → (i : ℕ) → sender p x.row ≡ i → over p times N x.tick i ≡ true
      sender_over h i q =
          subst (λ (i : ℕ). over p times N x.tick i ≡ true) q
          (over_too N part x.tick (omega arith) (sender p x.row) (omega (arith, sender_in p g x.row row_in)) (keeps.after_sender x (record { member = m; high = h })))

      told_true : told_when_ready p times N x ≡ true
      unfolding told_when_ready broadcast_ready
      told_true = at (two (is_edge p x.row))
        where
          at : (is_edge p x.row ≡ true) ⊎ (is_edge p x.row ≡ false) → told_when_ready p times N x ≡ true
          at (inl e) = or_left (is_edge p x.row) _ e
          at (inr e) =
              let l : length p.processes + length p.edges ≤ x.row = ltb-false _ _ e in
              let k : ℕ = row_condition p x.row in
              let q : x.row ≡ condition_row p k = omega arith in
              or_right (is_edge p x.row) _ (sender_over (omega arith) _ (ap (sender p) q ∙ condition_sender p k))

    told_part : Upto p M (told p times N) T
    unfolding told
    told_part =
        record {
          to = λ x m l. in_keep (told_when_ready p times N) (part.to x m l) (told_true x m l);
          from = λ x l m. part.from x l (keep_in (told_when_ready p times N) N m).0;
        }

    sent_true : (x : Placed) → In x M → x.tick < T → sent_when_ready p c times N x ≡ true
    unfolding sent_when_ready message_ready
    sent_true x m b = at (two (is_process p x.row)) (two (is_edge p x.row))
      where
        not_message : (is_process p x.row || not (is_edge p x.row)) ≡ true → sent_when_ready p c times N x ≡ true
        not_message e = or_left (is_process p x.row || not (is_edge p x.row)) _ e

        at : (is_process p x.row ≡ true) ⊎ (is_process p x.row ≡ false) → (is_edge p x.row ≡ true) ⊎ (is_edge p x.row ≡ false) → sent_when_ready p c times N x ≡ true
        at (inl e) f = not_message (or_left (is_process p x.row) _ e)
        at (inr e) (inr f) = not_message (or_right (is_process p x.row) _ (is_not _ f))
        at (inr e) (inl f) =
            let l : length p.processes ≤ x.row = ltb-false _ _ e in
            let h : x.row < length p.processes + length p.edges = ltb-true _ _ f in
            let d : ℕ = row_edge p x.row in
            let q : x.row ≡ edge_row p d = omega arith in
            or_right (is_process p x.row || not (is_edge p x.row)) _
            (join _ _ (sender_over x m b l _ (ap (sender p) q ∙ edge_sender p d (omega arith)))
            (rw (same_known (told p times N) told_part x.tick (omega arith)) (keeps.when_met x m d (omega arith) q)))

    -- so all of them count
    counting_part : Upto p M (counting p c times N) T
    unfolding counting
    counting_part =
        record {
          to = λ x m l. in_keep (sent_when_ready p c times N) (told_part.to x m l) (sent_true x m l);
          from = λ x l m. told_part.from x l (keep_in (sent_when_ready p c times N) (told p times N) m).0;
        }

    pub heard_known : (t : ℕ) → t ≤ T → hears p c times N t ≡ known_by p c M t
    unfolding hears
    heard_known = same_known (counting p c times N) counting_part

    -- what a run has heard is what its own broadcasts make known
    pub heard_own : (t : ℕ) → t ≤ T → hears p c times N t ≡ known p c (over p times N t)
    heard_own t u = heard_known t u ∙ sym (same_known N part t u)

    -- an edge that has delivered by the table has delivered in the run
    pub delivers_too : (e t : ℕ) → e < length p.edges → t ≤ T → delivered p (known_by p c M t) (done_by p M t) e ≡ true → delivers p c times N e t ≡ true
    unfolding delivers delivered message_ready
    delivers_too e t l u d = rw (heard_known t u) (at (local p e) d)
      where
        too : (r : ℕ) → r < rows p → done_by p M t r ≡ true → over p times (counting p c times N) t r ≡ true
        too = over_too (counting p c times N) counting_part t u

        at : (b : Bool) → (if b then message_ready p (known_by p c M t) (done_by p M t) e else done_by p M t (edge_row p e)) ≡ true →
            (if b then message_ready p (known_by p c M t) (over p times (counting p c times N) t) e else over p times (counting p c times N) t (edge_row p e)) ≡ true
        at false a = too (edge_row p e) (omega arith) a
        at true a =
            let b = both (done_by p M t (edge p e).from) (meets (known_by p c M t) (edge p e).when) a in
            join _ _ (too (edge p e).from (omega (arith, g.from_in e l)) b.0) b.1
