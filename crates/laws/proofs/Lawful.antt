-- A lawful table: in every combination each due row is met exactly once and no other row is, at ticks up to
-- 999,999,999.
-- Assumes nothing.
use Rattle.std.specs.Prelude.{if◌then◌else◌}
use mathlib.Core.Path.{◌≡◌, refl, sym, ap, ◌∙◌, subst}
use mathlib.Core.Bool.{Bool, true, false, ◌||◌}
use mathlib.Core.List.Memᴰ.{head as here}
use mathlib.Core.List.Memᴰ.{tail as there}
use mathlib.Core.List.{List, [], ◌∷◌, map, Memᴰ as In}
use Prim.Native.Nat.{ℕ, suc, ◌≤◌, ◌<◌}
use native.Mathlib.Omega.{arith}
use lib.Dec.{eqb}
use lib.ListN.{length}
use borrow.Author.Tests.{eqb-true, eq-eqb}
use Rattle.lists.specs.Lists.{repeated}
use Rattle.lists.proofs.Tests.{is_false, same_test}
use Rattle.lists.proofs.Members.{in_map, map_in, keep_in, in_keep, in_length, only}
use Rattle.lists.proofs.Different.{different_none, different_cons, different_parts}
use Rattle.model.specs.Plan.{Lines}
use Rattle.model.specs.Activity.{all_heard}
use Rattle.model.specs.Bus.{rows}
use Rattle.model.specs.Log.{Placed, Log, of_row, placed}
use Rattle.model.specs.Table.{Entry, column_met}
use Rattle.model.specs.Checking.{ill_formed, own, met_entries, met_log, due}
use Rattle.laws.proofs.Columns.{met_by}
use Rattle.laws.proofs.Formed.{formed}
use Rattle.laws.proofs.Good.{Good}
use Rattle.laws.proofs.Rows.{placed_in}
use Rattle.laws.proofs.Rules.{Lawful}

-- in a log of different rows, a row stands once or not at all
pub count_one : (log : Log) (r : ℕ) → repeated (map (λ x. x.row) log) ≡ false → length (of_row log r) ≡ (if placed log r then 1 else 0)
count_one [] r d = refl
count_one (x ∷ log) r d =
    let n = different_parts x.row (map (λ x. x.row) log) d in
    at (eqb x.row r) refl n.0 (count_one log r n.1)
  where
    at : (b : Bool) → eqb x.row r ≡ b → (In x.row (map (λ x. x.row) log) → ⊥) → length (of_row log r) ≡ (if placed log r then 1 else 0) →
        length (if b then (x ∷ of_row log r) else of_row log r) ≡ (if (b || placed log r) then 1 else 0)
    at true e f q =
        let none : placed log r ≡ false = is_false (placed log r) (λ h. let m = placed_in log r h in f (subst (λ (k : ℕ). In k (map (λ x. x.row) log)) (m.2 ∙ sym (eqb-true _ _ e)) (in_map (λ x. x.row) m.1))) in
        ap suc (q ∙ rw none)
    at false e f q = q

-- and where each row stands at most once, the rows are different
pub once_different : (log : Log) → ((x : Placed) → In x log → length (of_row log x.row) ≤ 1) → repeated (map (λ x. x.row) log) ≡ false
once_different [] h = different_none
once_different (x ∷ log) h =
    different_cons x.row (map (λ x. x.row) log) (λ m. not_again (map_in (λ x. x.row) log m))
    (once_different log (λ y m. fewer y (eqb x.row y.row) (h y (there m))))
  where
    not_again : (y : Placed) × In y log × (x.row ≡ y.row) → ⊥
    not_again y =
        let l : suc (length (of_row log x.row)) ≤ 1 = rw (eq-eqb x.row x.row refl) at (h x (here refl)) in
        let k : 1 ≤ length (of_row log x.row) = in_length (in_keep (λ z. eqb z.row x.row) y.1 (eq-eqb _ _ (sym y.2))) in
        omega arith

    fewer : (y : Placed) (b : Bool) → length (if b then (x ∷ of_row log y.row) else of_row log y.row) ≤ 1 → length (of_row log y.row) ≤ 1
    fewer y true l = omega arith
    fewer y false l = l

pub formed_row : (p : Lines) (e : Entry) → ill_formed p e ≡ false → (e.row < rows p) × (e.tick ≤ 999999999)
formed_row p e f = let h = formed p e f in (h.row_in, h.tick_in)

-- a start or item is an entry's whose column the combination meets
module _ (es : List Entry) (c : List Bool) where
  pub met_of : (x : Placed) → In x (met_log es c) → (e : Entry) × In e es × (column_met (all_heard c) e ≡ true) × (x ≡ own e)
  unfolding met_log met_entries
  met_of x m =
      let e = map_in own (met_entries es c) m in
      let k = keep_in (column_met (all_heard c)) es e.1 in
      (e.0, k.0, k.1, e.2)

  pub to_met : (e : Entry) → In e es → column_met (all_heard c) e ≡ true → In (own e) (met_log es c)
  unfolding met_log met_entries
  to_met e m q = in_map own (in_keep (column_met (all_heard c)) m q)

-- each entry in which 13 finds nothing is met in some combination
pub met_somewhere : (p : Lines) → Good p → (e : Entry) → ill_formed p e ≡ false → (c : List Bool) × (length c ≡ length p.conditions) × (column_met (all_heard c) e ≡ true)
unfolding column_met
met_somewhere p g e f = met_by 32 (length p.conditions) e.known e.values (omega (arith, g.few_conditions)) (formed p e f).known_in

module _ (p : Lines) (es : List Entry) (stated : ℕ) (s : Lawful p es stated) (c : List Bool) (cl : length c ≡ length p.conditions) where
  abbrev M : Log
  M = met_log es c

  pub in_ticks : (x : Placed) → In x M → x.tick ≤ 999999999
  in_ticks x m = let e = met_of es c x m in rw e.3 (formed_row p e.0 (s.formed e.0 e.1)).1

  pub row_count : (r : ℕ) → r < rows p → length (of_row M r) ≡ (if due p c r then 1 else 0)
  row_count r l =
      count_one M r (s.keeps c cl).once
      ∙ ap (λ (b : Bool). if b then 1 else 0)
      (same_test _ _ (λ h. let m = placed_in M r h in sym (ap (due p c) m.2) ∙ ((s.keeps c cl).only_due m.0 m.1).1) (s.all_there c cl r l))

  pub due_once : (r : ℕ) → r < rows p → due p c r ≡ true → (x : Placed) × (of_row M r ≡ x ∷ [])
  due_once r l d = only (of_row M r) (row_count r l ∙ rw d)
