-- Arrays by row that hold a log: the empty one, one more row placed, and what is over and placed by them.
-- Assumes nothing.
use Rattle.std.specs.Prelude.{if◌then◌else◌}
use mathlib.Core.Path.{◌≡◌, refl, sym, ap, ◌∙◌, subst}
use mathlib.Core.Logic.{◌⊎◌, inl, inr}
use mathlib.Core.Bool.{Bool, true, false, not, ◌&&◌, ◌||◌}
use mathlib.Core.List.{List, [], ◌∷◌}
use Prim.Native.Nat.{ℕ, suc, ◌+◌, ◌<◌}
use native.Mathlib.Omega.{arith}
use lib.Dec.{eqb, leb}
use lib.ListN.{length, get_or, set, replicate, length-set, length-replicate}
use lib.Seq.{get_or-set_same, get_or-set_other}
use borrow.Author.Tests.{eq-eqb, eqb-true, ne_eqb, leb-true, leb-false, le-leb, lt-leb}
use Rattle.lists.specs.Lists.{any, null}
use Rattle.lists.proofs.Tests.{two, clash, or_false, and_false, join}
use Rattle.lists.proofs.Fill.{zeros_at}
use Rattle.model.specs.Plan.{Lines}
use Rattle.model.specs.Log.{Placed, Log, of_row, placed, full_ticks, span, over}
use Rattle.log_queries.specs.Reading.{within, came_by, placed_by}
use Rattle.log_queries.specs.Holding.{Row, absent, stands, Held, Logged}

pub held_none : (p : Lines) → Held p [] (replicate 198 0) (replicate 198 0)
held_none p =
    record {
      row = λ r. absent refl (zeros_at 198 r);
      no_place = λ i l. zeros_at 198 i;
      comes_long = length-replicate {A = ℕ} 198 0;
      place_long = length-replicate {A = ℕ} 198 0;
    }

-- logs with the same rows
pub row_same : (p : Lines) (log more : Log) (r come at : ℕ) → of_row more r ≡ of_row log r → Row p log r come at → Row p more r come at
row_same p log more r come at q (absent n z) = absent (q ∙ n) z
row_same p log more r come at q (stands t n z) = stands t (q ∙ n) z

pub held_same : (p : Lines) (log more : Log) (comes place : List ℕ) → ((r : ℕ) → of_row more r ≡ of_row log r) → Held p log comes place → Held p more comes place
held_same p log more comes place q h =
    record {
      row = λ r. row_same p log more r (get_or comes r 0) (get_or place r 0) (q r) (h.row r);
      no_place = h.no_place;
      comes_long = h.comes_long;
      place_long = h.place_long;
    }

-- a row that is not placed stands nowhere
pub unplaced : (p : Lines) (log : Log) (r come at : ℕ) → Row p log r come at → come ≡ 0 → of_row log r ≡ []
unplaced p log r come at (absent n z) e = n
unplaced p log r come at (stands t n z) e = absurd (omega arith)

-- one more row, first in the log
module _ (p : Lines) (log : Log) (comes place : List ℕ) (x : Placed) (h : Held p log comes place)
    (l : x.row < 198) (fresh : get_or comes x.row 0 ≡ 0) where
  abbrev end : ℕ
  end = suc (x.tick + span p (full_ticks p) x.row)

  row_put : (places : List ℕ) → get_or places x.row 0 ≡ x.place → ((r : ℕ) → (x.row ≡ r → ⊥) → get_or places r 0 ≡ get_or place r 0) →
      (r : ℕ) → Row p (x ∷ log) r (get_or (set comes x.row end) r 0) (get_or places r 0)
  row_put places here there r = at (eqb x.row r) refl
    where
      at : (b : Bool) → eqb x.row r ≡ b → Row p (x ∷ log) r (get_or (set comes x.row end) r 0) (get_or places r 0)
      at true e =
          let q : x.row ≡ r = eqb-true _ _ e in
          subst (λ (r : ℕ). Row p (x ∷ log) r (get_or (set comes x.row end) r 0) (get_or places r 0)) q
          (stands x.tick
          (ap (λ (b : Bool). if b then (x ∷ of_row log x.row) else of_row log x.row) (eq-eqb x.row x.row refl)
          ∙ ap (λ (l : Log). x ∷ l) (unplaced p log x.row (get_or comes x.row 0) (get_or place x.row 0) (h.row x.row) fresh)
          ∙ ap (λ (a : ℕ). record { row = x.row; tick = x.tick; place = a } ∷ []) (sym here))
          (get_or-set_same comes x.row end 0 (omega (arith, h.comes_long))))
      at false e =
          let n : x.row ≡ r → ⊥ = λ q. clash (eq-eqb _ _ q) e in
          subst (λ (z : ℕ). Row p (x ∷ log) r z (get_or places r 0)) (sym (get_or-set_other comes x.row r end 0 (λ q. n (sym q))))
          (subst (λ (z : ℕ). Row p (x ∷ log) r (get_or comes r 0) z) (sym (there r n))
          (row_same p log (x ∷ log) r (get_or comes r 0) (get_or place r 0)
          (ap (λ (b : Bool). if b then (x ∷ of_row log r) else of_row log r) e) (h.row r)))

  pub held_put : (x.row < length p.processes → x.place ≡ 0) → Held p (x ∷ log) (set comes x.row (suc (x.tick + span p (full_ticks p) x.row))) (set place x.row x.place)
  held_put first =
      record {
        row = row_put (set place x.row x.place) (get_or-set_same place x.row x.place 0 (omega (arith, h.place_long))) (λ r n. get_or-set_other place x.row r x.place 0 (λ q. n (sym q)));
        no_place = λ i m. at i m (two (eqb x.row i));
        comes_long = length-set comes x.row end ∙ h.comes_long;
        place_long = length-set place x.row x.place ∙ h.place_long;
      }
    where
      at : (i : ℕ) → i < length p.processes → (eqb x.row i ≡ true) ⊎ (eqb x.row i ≡ false) → get_or (set place x.row x.place) i 0 ≡ 0
      at i m (inl e) =
          let q : x.row ≡ i = eqb-true _ _ e in
          ap (λ (j : ℕ). get_or (set place x.row x.place) j 0) (sym q)
          ∙ get_or-set_same place x.row x.place 0 (omega (arith, h.place_long)) ∙ first (subst (λ (j : ℕ). j < length p.processes) (sym q) m)
      at i m (inr e) = get_or-set_other place x.row i x.place 0 (λ q. clash (eq-eqb _ _ (sym q)) e) ∙ h.no_place i m

  -- a start leaves the places as they are
  pub held_start : x.row < length p.processes → x.place ≡ 0 → Held p (x ∷ log) (set comes x.row (suc (x.tick + span p (full_ticks p) x.row))) place
  held_start m z =
      record {
        row = row_put place (h.no_place x.row m ∙ sym z) (λ r n. refl);
        no_place = h.no_place;
        comes_long = length-set comes x.row end ∙ h.comes_long;
        place_long = h.place_long;
      }

-- what is over and placed, by the rows of a log
over_row : (p : Lines) (log : Log) (t r : ℕ) → over p (full_ticks p) log t r ≡ any (λ x. leb (x.tick + span p (full_ticks p) r) t) (of_row log r)
unfolding over
over_row p [] t r = refl
over_row p (x ∷ log) t r = at (eqb x.row r) (over_row p log t r)
  where
    at : (b : Bool) → over p (full_ticks p) log t r ≡ any (λ x. leb (x.tick + span p (full_ticks p) r) t) (of_row log r) → ((b && leb (x.tick + span p (full_ticks p) r) t) || over p (full_ticks p) log t r) ≡ any (λ x. leb (x.tick + span p (full_ticks p) r) t) (if b then (x ∷ of_row log r) else of_row log r)
    at true q = ap (λ (z : Bool). leb (x.tick + span p (full_ticks p) r) t || z) q
    at false q = q

placed_row : (log : Log) (r : ℕ) → placed log r ≡ not (null (of_row log r))
placed_row [] r = refl
placed_row (x ∷ log) r = at (eqb x.row r) (placed_row log r)
  where
    at : (b : Bool) → placed log r ≡ not (null (of_row log r)) → (b || placed log r) ≡ not (null (if b then (x ∷ of_row log r) else of_row log r))
    at true q = refl
    at false q = q

-- a row that is over by a clock of one more
within_next : (m t : ℕ) → leb m t ≡ within (suc m) (suc t)
within_next m t = at (leb m t) refl
  where
    at : (b : Bool) → leb m t ≡ b → b ≡ (not (eqb (suc m) 0) && leb (suc m) (suc t))
    at true e = sym (join _ _ (ap not (ne_eqb (suc m) 0 (λ q. absurd (omega arith)))) (le-leb (suc m) (suc t) (let l = leb-true m t e in omega arith)))
    at false e = sym (ap (λ (b : Bool). not (eqb (suc m) 0) && b) (lt-leb (suc m) (suc t) (let l = leb-false m t e in omega arith)) ∙ and_false (not (eqb (suc m) 0)))

module _ (p : Lines) (log : Log) where
  over_held : (t r come at : ℕ) → Row p log r come at → over p (full_ticks p) log t r ≡ within come (suc t)
  over_held t r come at (absent n z) = over_row p log t r ∙ ap (any (λ x. leb (x.tick + span p (full_ticks p) r) t)) n ∙ ap (λ (y : ℕ). within y (suc t)) (sym z)
  over_held t r come at (stands u n z) =
      over_row p log t r ∙ ap (any (λ x. leb (x.tick + span p (full_ticks p) r) t)) n
      ∙ or_false (leb (u + span p (full_ticks p) r) t) ∙ within_next (u + span p (full_ticks p) r) t ∙ ap (λ (y : ℕ). within y (suc t)) (sym z)

  placed_held : (r come at : ℕ) → Row p log r come at → placed log r ≡ not (eqb come 0)
  placed_held r come at (absent n z) = placed_row log r ∙ ap (λ (l : Log). not (null l)) n ∙ ap (λ (y : ℕ). not (eqb y 0)) (sym z)
  placed_held r come at (stands u n z) = placed_row log r ∙ ap (λ (l : Log). not (null l)) n ∙ sym (ap not (ne_eqb come 0 (λ q. absurd (omega (arith, z)))))

  pub held_logged : (comes place : List ℕ) → Held p log comes place → Logged p log comes
  unfolding came_by placed_by
  held_logged comes place h =
      record {
        over_by = λ t i r. over_held t r (get_or comes r 0) (get_or place r 0) (h.row r) i;
        put_by = λ i r. placed_held r (get_or comes r 0) (get_or place r 0) (h.row r) i;
      }
