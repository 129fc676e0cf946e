-- Where arrays by row hold a log, the rows that are placed are the starts and items of the log.
-- Assumes nothing.
use mathlib.Core.Path.{◌≡◌, refl, sym, ap, ◌∙◌, subst}
use mathlib.Core.Bool.{true, not}
use mathlib.Core.List.Memᴰ.{head as here}
use mathlib.Core.List.Memᴰ.{not-nil as in_none}
use mathlib.Core.List.Memᴰ.{tail as there}
use mathlib.Core.List.{List, [], ◌∷◌, Memᴰ as In}
use Prim.Native.Nat.{ℕ, suc, ◌+◌, ◌-◌}
use native.Mathlib.Omega.{arith}
use lib.Dec.{eqb}
use lib.ListN.{get_or}
use borrow.Author.Tests.{eq-eqb, ne_eqb, eqb-false, not-true}
use Rattle.lists.proofs.Members.{in_keep, keep_in}
use Rattle.model.specs.Plan.{Lines}
use Rattle.model.specs.Log.{Placed, Log, of_row, full_ticks, span}
use Rattle.log_queries.specs.Reading.{placed_by}
use Rattle.log_queries.specs.Holding.{Row, absent, stands, Held}

module _ (p : Lines) (comes place : List ℕ) where
  -- the start or item of a row that is placed
  abbrev pub placed_at : ℕ → Placed
  placed_at r = record { row = r; tick = get_or comes r 0 - suc (span p (full_ticks p) r); place = get_or place r 0 }

pub is_placed : (comes : List ℕ) (r : ℕ) → placed_by comes r ≡ true → get_or comes r 0 ≡ 0 → ⊥
unfolding placed_by
is_placed comes r e = eqb-false _ _ (not-true _ e)

pub placed_is : (comes : List ℕ) (r : ℕ) → (get_or comes r 0 ≡ 0 → ⊥) → placed_by comes r ≡ true
unfolding placed_by
placed_is comes r n = ap not (ne_eqb _ _ n)

module _ (p : Lines) (log : Log) (comes place : List ℕ) (h : Held p log comes place) where
  -- a row that is placed stands in the log
  pub row_stands : (r : ℕ) → placed_by comes r ≡ true → In (placed_at p comes place r) log × (get_or comes r 0 ≡ suc ((placed_at p comes place r).tick + span p (full_ticks p) r))
  row_stands r e = by (h.row r)
    where
      by : Row p log r (get_or comes r 0) (get_or place r 0) → In (placed_at p comes place r) log × (get_or comes r 0 ≡ suc ((placed_at p comes place r).tick + span p (full_ticks p) r))
      by (absent q z) = absurd (is_placed comes r e z)
      by (stands t q z) =
          let s : get_or comes r 0 - suc (span p (full_ticks p) r) ≡ t = omega arith in
          let m : In (placed_at p comes place r) (of_row log r) =
          subst (λ (l : Log). In (placed_at p comes place r) l) (sym q) (here (ap (λ (k : ℕ). record { row = r; tick = k; place = get_or place r 0 }) s)) in
          ((keep_in (λ x. eqb x.row r) log m).0, omega arith)

  -- what stands in the log is the start or item of its row
  pub stands_row : (x : Placed) → In x log → (x ≡ placed_at p comes place x.row) × (placed_by comes x.row ≡ true)
  stands_row x m = by (h.row x.row) (in_keep (λ y. eqb y.row x.row) m (eq-eqb x.row x.row refl))
    where
      one : (t : ℕ) → get_or comes x.row 0 ≡ suc (t + span p (full_ticks p) x.row) → In x (record { row = x.row; tick = t; place = get_or place x.row 0 } ∷ []) →
          (x ≡ placed_at p comes place x.row) × (placed_by comes x.row ≡ true)
      one t z (here q) =
          let s : t ≡ get_or comes x.row 0 - suc (span p (full_ticks p) x.row) = omega arith in
          (q ∙ ap (λ (k : ℕ). record { row = x.row; tick = k; place = get_or place x.row 0 }) s, placed_is comes x.row (λ e. absurd (omega arith)))
      one t z (there n) = absurd (in_none n)

      by : Row p log x.row (get_or comes x.row 0) (get_or place x.row 0) → In x (of_row log x.row) → (x ≡ placed_at p comes place x.row) × (placed_by comes x.row ≡ true)
      by (absent q z) n = absurd (in_none (subst (λ (l : Log). In x l) q n))
      by (stands t q z) n = one t z (subst (λ (l : Log). In x l) q n)
