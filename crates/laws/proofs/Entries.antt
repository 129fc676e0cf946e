-- The planner's entries ascend, and those that a combination meets are those that are made from its own log, one for
-- each row of it.
-- Assumes nothing.
use Rattle.std.specs.Prelude.{if◌then◌else◌}
use mathlib.Core.Path.{◌≡◌, refl, sym, ap, ◌∙◌, subst, subst₂}
use mathlib.Core.Logic.{inr}
use mathlib.Core.Bool.{Bool, true, false}
use mathlib.Core.List.{List, [], Memᴰ as In}
use Prim.Native.Nat.{ℕ, suc, ◌<◌}
use native.Mathlib.Omega.{arith}
use lib.Dec.{eqb}
use lib.ListN.{length, get_or}
use borrow.Author.Tests.{eqb-true, eq-eqb}
use Rattle.lists.specs.Lists.{each, below}
use Rattle.lists.specs.Ordered.{same, order, Ascending}
use Rattle.lists.proofs.Members.{map_in, in_map, each_in, in_each, keep_in, in_keep, in_below}
use Rattle.lists.proofs.Order.{Joining, order_lt, order_same, ascending_each, put_all_ascends, put_all_in, in_put_all}
use Rattle.model.specs.Plan.{Lines}
use Rattle.model.specs.Activity.{Heard, heard, unheard, all_heard, combinations}
use Rattle.model.specs.Bus.{rows, condition_row}
use Rattle.model.specs.Log.{Placed, Log, of_row}
use Rattle.model.specs.Planning.{State, bound, planned}
use Rattle.model.specs.Refusals.{nothing, plan_refusal}
use Rattle.model.specs.Table.{Entry, known_bits, value_bits, bits_met, column_met, entry_of, key, one_of_two, Planned, plans, made_entries, row_entries, result}
use Rattle.laws.proofs.Columns.{met_more, met_self, bits_agree, known_part}
use Rattle.laws.proofs.Combinations.{in_combinations, combination_length}
use Rattle.laws.proofs.Good.{Good, good}
use Rattle.laws.proofs.History.{grows, history, back, over_then, known_then}
use Rattle.laws.proofs.NonAnticipation.{Agree, known_agree, same_before, non_anticipation}
use Rattle.laws.proofs.Once.{unique}
use Rattle.laws.proofs.OnlyDue.{only_due}
use Rattle.laws.proofs.Rows.{done_by, known_by, known_at, known_length}
use Rattle.laws.proofs.Steps.{log_at}

-- the log of a combination's plan
abbrev pub final : Lines → List Bool → Log
final p c = log_at p c (bound p)

-- an entry that is made from it
pub record Made (p : Lines) (c : List Bool) (e : Entry) : Type 0 where
  pub item : Placed
  pub member : In item (final p c)
  pub is_its : e ≡ entry_of p c (final p c) item

key_same : (e f : Entry) → order (key e) (key f) ≡ same → e ≡ f
unfolding key
key_same e f o =
    let q = order_same (key e) (key f) o in
    let a : e.row ≡ f.row = cc in
    let b : e.tick ≡ f.tick = cc in
    let c : e.known ≡ f.known = cc in
    let d : e.values ≡ f.values = cc in
    let g : e.place ≡ f.place = cc in
    λ i. record { row = a i; known = c i; values = d i; tick = b i; place = g i }

-- Entries of equal keys are equal, so that either of two may stand for both.
either_of_two : Joining key one_of_two (λ e. Unit {0}) ◌≡◌
unfolding one_of_two
either_of_two =
    record {
      one_of = λ e f u v o. inr refl;
      for_new = λ e f u v o. key_same e f o;
      for_old = λ e f u v o. refl;
      itself = λ e. refl;
      trans = λ e f g p q. p ∙ q;
    }

module _ (p : Lines) where
  abbrev E : List Entry
  E = (result p).entries

  -- the entries of a row
  abbrev plan_of : List Bool → Planned
  plan_of c = record { combination = c; state = planned p c }

  row_made : (r : ℕ) (e : Entry) → In e (row_entries p (plans p) r) → (e.row ≡ r) × ((c : List Bool) × In c (combinations p) × Made p c e)
  unfolding row_entries made_entries plans planned entry_of
  row_made r e m =
      let s = each_in (made_entries p r) (plans p) (put_all_in key either_of_two e (each (made_entries p r) (plans p)) (λ f n. tt) m) in
      let c = map_in plan_of (combinations p) s.1 in
      let k : In e (made_entries p r (plan_of c.0)) = subst (λ (z : Planned). In e (made_entries p r z)) c.2 s.2 in
      let x = map_in (entry_of p c.0 (final p c.0)) (of_row (final p c.0) r) k in
      let y = keep_in (λ x. eqb x.row r) (final p c.0) x.1 in
      (ap (λ (z : Entry). z.row) x.2 ∙ eqb-true _ _ y.1, (c.0, c.1, record { item = x.0; member = y.0; is_its = x.2 }))

  pub entries_ascend : Ascending key (result p).entries
  unfolding result row_entries key one_of_two
  entries_ascend =
      ascending_each key (row_entries p (plans p)) (λ r. put_all_ascends key one_of_two (λ x y o. refl) (each (made_entries p r) (plans p)) [] tt)
      (λ r s l x y m n. order_lt x.row y.row _ _ (omega (arith, (row_made r x m).0, (row_made s y n).0))) 0 (rows p)

  pub entries_in : (e : Entry) → In e E → (c : List Bool) × (length c ≡ length p.conditions) × Made p c e
  unfolding result
  entries_in e m =
      let r = each_in (row_entries p (plans p)) (below (rows p)) m in
      let c = (row_made r.0 e r.2).1 in
      (c.0, combination_length p c.0 c.1, c.2)

  module _ (g : Good p) where
    in_entries : (c : List Bool) → length c ≡ length p.conditions → (x : Placed) → In x (final p c) → In (entry_of p c (final p c) x) E
    unfolding result row_entries made_entries plans planned
    in_entries c cl x m =
        let e : Entry = entry_of p c (final p c) x in
        let made : In e (each (made_entries p x.row) (plans p)) =
        in_each (made_entries p x.row) {x = plan_of c} (in_map plan_of (in_combinations p c cl))
        (in_map (entry_of p c (final p c)) (in_keep (λ y. eqb y.row x.row) m (eq-eqb x.row x.row refl))) in
        let r = in_put_all key either_of_two e (each (made_entries p x.row) (plans p)) (λ f n. tt) made in
        in_each (row_entries p (plans p)) (in_below (rows p) x.row (only_due p c g cl (bound p) x m).0)
        (subst (λ (z : Entry). In z (row_entries p (plans p) x.row)) (sym r.2) r.1)

    -- A combination that meets the column of another's entry had the same log up to the entry's tick, and makes the
    -- same entry.
    module _ (c d : List Bool) (cl : length c ≡ length p.conditions) (dl : length d ≡ length p.conditions) (x : Placed) (m : In x (final p d))
        (met : column_met (all_heard c) (entry_of p d (final p d) x) ≡ true) where
      abbrev T : ℕ
      T = x.tick

      late : x.tick < bound p
      late = (history p d (bound p) x m).0

      agree : Agree p d c (log_at p d T) T
      unfolding column_met entry_of
      agree k l a =
          let u = late in
          let h : List Heard = known_by p d (final p d) T in
          let v : get_or h k unheard ≡ heard (get_or d k false) =
          known_at p d (done_by p (final p d) T) k l
          ∙ ap (λ (b : Bool). if b then heard (get_or d k false) else unheard) (ap (λ (f : ℕ → Bool). f (condition_row p k)) (over_then p d g dl T (bound p) (omega arith)) ∙ a) in
          let n : length h ≡ length p.conditions = known_length p d (done_by p (final p d) T) in
          let few = g.few_conditions in
          sym (bits_agree 32 h c (omega arith) (omega arith) met k (get_or d k false) v)

      same_known : known_by p d (final p d) T ≡ known_by p c (final p c) T
      same_known =
          let u = late in
          known_then p d g dl T (bound p) (omega arith)
          ∙ known_agree p d c (done_by p (log_at p d T) T) agree
          ∙ ap (λ (s : State). known_by p c s.log T) (same_before p d c T agree)
          ∙ sym (known_then p c g cl T (bound p) (omega arith))

      own_made : Made p c (entry_of p d (final p d) x)
      unfolding entry_of
      own_made =
          let u = late in
          record {
            item = x;
            member =
                grows p c (suc T) (bound p) (omega arith) x
                (subst (λ (s : State). In x s.log) (non_anticipation p d c T agree) (back p d (bound p) (suc T) x m (omega arith)));
            is_its = λ i. record { row = x.row; known = known_bits (same_known i); values = value_bits (same_known i); tick = x.tick; place = x.place };
          }

    module _ (c : List Bool) (cl : length c ≡ length p.conditions) where
      pub met_made : (e : Entry) → In e E → column_met (all_heard c) e ≡ true → Made p c e
      met_made e m q =
          let d = entries_in e m in
          let s : Made p d.0 e = d.2 in
          subst (Made p c) (sym s.is_its) (own_made c d.0 cl d.1 s.item s.member (sym (ap (column_met (all_heard c)) s.is_its) ∙ q))

      pub made_in : (e : Entry) → Made p c e → In e E
      made_in e s = subst (λ (z : Entry). In z E) (sym s.is_its) (in_entries c cl s.item s.member)

      pub made_met : (e : Entry) → Made p c e → column_met (all_heard c) e ≡ true
      unfolding column_met entry_of
      made_met e s =
          let h : List Heard = known_by p c (final p c) s.item.tick in
          ap (column_met (all_heard c)) s.is_its ∙ met_more 32 (known_bits h) (value_bits h) (known_part p c cl _) (met_self 32 (known_bits h) (value_bits h))

      pub one_a_row : (e f : Entry) → Made p c e → Made p c f → e.row ≡ f.row → e ≡ f
      unfolding entry_of
      one_a_row e f s t q =
          let r : s.item.row ≡ t.item.row = sym (ap (λ (z : Entry). z.row) s.is_its) ∙ q ∙ ap (λ (z : Entry). z.row) t.is_its in
          s.is_its ∙ ap (entry_of p c (final p c)) (unique p c g (bound p) s.item t.item s.member t.member r) ∙ sym t.is_its

-- Entries of one row with equal columns are equal, their ticks and places too.
pub equal_places : (p : Lines) → plan_refusal p ≡ nothing → (e f : Entry) → In e (result p).entries → In f (result p).entries →
    e.row ≡ f.row → e.known ≡ f.known → e.values ≡ f.values → e ≡ f
unfolding column_met
equal_places p fine e f m n r k v =
    let g : Good p = good p fine in
    let c = entries_in p e m in
    let h : List Heard = all_heard c.0 in
    let met : column_met h f ≡ true = subst₂ (λ (a b : ℕ). bits_met 32 a b (known_bits h) (value_bits h) ≡ true) k v (made_met p g c.0 c.1 e c.2) in
    one_a_row p g c.0 c.1 e f c.2 (met_made p g c.0 c.1 f n met) r
