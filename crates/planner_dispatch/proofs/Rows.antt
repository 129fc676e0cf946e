-- A row is started by its own unit alone, so that a log has the same rows whether the units start in bus order or in
-- the order of their numbers.
-- Assumes nothing.
use mathlib.Core.Path.{◌≡◌, refl, sym, ap, ◌∙◌, subst}
use mathlib.Core.Logic.{◌⊎◌, inl, inr}
use mathlib.Core.Bool.{true, false, not}
use mathlib.Core.List.Memᴰ.{head as here}
use mathlib.Core.List.Memᴰ.{not-nil as in_none}
use mathlib.Core.List.Memᴰ.{tail as there}
use mathlib.Core.List.{List, [], ◌∷◌, ◌++◌, Memᴰ as In, append-nil}
use Prim.Native.Nat.{ℕ, zero, suc, ◌≤◌, ◌<◌}
use native.Mathlib.Nat.{not-suc-le-zero}
use native.Mathlib.Omega.{arith}
use lib.Dec.{eqb, ltb}
use lib.ListN.{length, get_or}
use borrow.Author.Tests.{eqb-true, ltb-true, ltb-false}
use Rattle.lists.specs.Lists.{each, first, repeated}
use Rattle.lists.proofs.Tests.{two, both, below_suc}
use Rattle.lists.proofs.Members.{keep_in, map_in, below_in, no_members, if_in, first_in}
use Rattle.lists.proofs.Keep.{keep_append, keep_each}
use Rattle.lists.proofs.Sorting.{sort_in}
use Rattle.lists.proofs.Different.{different_parts}
use Rattle.model.specs.Plan.{Lines, processes, unit, units}
use Rattle.model.specs.Log.{Placed, Log, of_row}
use Rattle.model.specs.Planning.{View, weights, dispatch_order, ready, free, candidate, start_at, unit_starts, starts}
use Rattle.laws.proofs.Good.{Good}

pub dispatch_in : (p : Lines) {i : ℕ} → In i (dispatch_order p) → i < length p.processes
unfolding dispatch_order
dispatch_in p m = below_in (length p.processes) (sort_in (λ i. get_or (weights p) i 0) (processes p) m)

pub unit_low : (p : Lines) → Good p → (i : ℕ) → i < length p.processes → unit p i < length p.slots
unfolding unit
unit_low p g i l = g.node_in i l

-- of some numbers that are all different, only m has anything
module _ {A : Type 0} (f : ℕ → List A) where
  each_none : (us : List ℕ) → ((k : ℕ) → In k us → f k ≡ []) → each f us ≡ []
  each_none [] h = refl
  each_none (u ∷ us) h = λ i. h u (here refl) i ++ each_none us (λ k m. h k (there m)) i

  each_once : (m : ℕ) → ((k : ℕ) → (k ≡ m → ⊥) → f k ≡ []) → (us : List ℕ) → repeated us ≡ false → In m us → each f us ≡ f m
  each_once m h [] d n = absurd (in_none n)
  each_once m h (u ∷ us) d (here q) =
      let s = different_parts u us d in
      (λ i. f (sym q i) ++ each_none us (λ k n. h k (λ e. s.0 (subst (λ (z : ℕ). In z us) (e ∙ q) n))) i) ∙ append-nil (f m)
  each_once m h (u ∷ us) d (there n) =
      let s = different_parts u us d in
      λ i. h u (λ e. s.0 (subst (λ (z : ℕ). In z us) (sym e) n)) i ++ each_once m h us s.1 n i

module _ (p : Lines) (v : View) (t : ℕ) where
  pub start_of : (n : ℕ) (x : Placed) → In x (unit_starts p v t n) → (x.row < length p.processes) × (unit p x.row ≡ n)
  unfolding unit_starts candidate
  start_of n x m =
      let f = if_in (free p v n) _ m in
      let s = map_in (start_at t) (first (candidate p v n) (dispatch_order p)) f.1 in
      let i : ℕ = s.0 in
      let k = first_in (candidate p v n) (dispatch_order p) s.1 in
      let a = both _ (ready p v i) k.1 in
      let b = both (eqb (unit p i) n) (not (v.placed i)) a.0 in
      let q : x.row ≡ i = ap (λ (z : Placed). z.row) s.2 in
      (subst (λ (j : ℕ). j < length p.processes) (sym q) (dispatch_in p k.0), ap (unit p) q ∙ eqb-true _ _ b.0)

  -- the log after the units below n have started
  abbrev pub upto : Log → ℕ → Log
  upto log zero = log
  upto log (suc n) = unit_starts p v t n ++ upto log n

  module _ (r : ℕ) where
    abbrev mine : ℕ → Log
    mine n = of_row (unit_starts p v t n) r

    elsewhere : (n : ℕ) → (n ≡ unit p r → ⊥) → mine n ≡ []
    elsewhere n d =
        no_members _ (λ x m.
        let k = keep_in (λ x. eqb x.row r) (unit_starts p v t n) m in
        d (sym (start_of n x k.0).1 ∙ ap (unit p) (eqb-true x.row r k.1)))

    no_item : length p.processes ≤ r → (n : ℕ) → mine n ≡ []
    no_item l n =
        no_members _ (λ x m.
        let k = keep_in (λ x. eqb x.row r) (unit_starts p v t n) m in
        let q : x.row ≡ r = eqb-true x.row r k.1 in
        absurd (omega (arith, (start_of n x k.0).0)))

    upto_none : (log : Log) (n : ℕ) → ((k : ℕ) → k < n → mine k ≡ []) → of_row (upto log n) r ≡ of_row log r
    upto_none log zero h = refl
    upto_none log (suc n) h =
        keep_append (λ x. eqb x.row r) (unit_starts p v t n) (upto log n)
        ∙ (λ i. h n (omega arith) i ++ upto_none log n (λ k l. h k (omega arith)) i)

    upto_one : (log : Log) (m n : ℕ) → ((k : ℕ) → (k ≡ m → ⊥) → mine k ≡ []) → m < n → of_row (upto log n) r ≡ mine m ++ of_row log r
    upto_one log m zero h l = absurd (not-suc-le-zero l)
    upto_one log m (suc n) h l = keep_append (λ x. eqb x.row r) (unit_starts p v t n) (upto log n) ∙ at (upto_one log m n h) (below_suc m n l)
      where
        at : (m < n → of_row (upto log n) r ≡ mine m ++ of_row log r) → (m < n) ⊎ (m ≡ n) → mine n ++ of_row (upto log n) r ≡ mine m ++ of_row log r
        at f (inl l) = λ i. h n (λ q. omega arith) i ++ f l i
        at f (inr q) = λ i. mine (sym q i) ++ upto_none log n (λ k l. h k (λ e. omega arith)) i

  pub same_rows : Good p → (log : Log) (r : ℕ) → of_row (starts p v t ++ log) r ≡ of_row (upto log (length p.slots)) r
  unfolding starts
  same_rows g log r =
      keep_append (λ x. eqb x.row r) (each (unit_starts p v t) (units p)) log
      ∙ ap (λ (l : Log). l ++ of_row log r) (keep_each (λ x. eqb x.row r) (unit_starts p v t) (units p))
      ∙ at (two (ltb r (length p.processes)))
    where
      at : (ltb r (length p.processes) ≡ true) ⊎ (ltb r (length p.processes) ≡ false) →
          each (mine r) (units p) ++ of_row log r ≡ of_row (upto log (length p.slots)) r
      at (inl e) =
          let l : r < length p.processes = ltb-true _ _ e in
          ap (λ (l : Log). l ++ of_row log r) (each_once (mine r) (unit p r) (elsewhere r) (units p) g.units_differ (g.unit_in r l))
          ∙ sym (upto_one r log (unit p r) (length p.slots) (elsewhere r) (unit_low p g r l))
      at (inr e) =
          let l : length p.processes ≤ r = ltb-false _ _ e in
          ap (λ (l : Log). l ++ of_row log r) (each_none (mine r) (units p) (λ k m. no_item r l k))
          ∙ sym (upto_none r log (length p.slots) (λ k m. no_item r l k))
