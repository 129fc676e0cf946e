-- Rows that are tried one after another in arrays that hold a log: the arrays then hold that log with what `pack` takes
-- in front of it, and something was passed over just where `pack` takes fewer than there are.
-- Assumes nothing.
use Rattle.std.specs.Prelude.{if◌then◌else◌}
use mathlib.Core.Path.{◌≡◌, refl, sym, ap, ◌∙◌, subst}
use mathlib.Core.Logic.{◌⊎◌, inl, inr}
use mathlib.Core.Bool.{Bool, true, false, ◌&&◌, ◌||◌}
use mathlib.Core.List.Memᴰ.{head as here}
use mathlib.Core.List.Memᴰ.{tail as there}
use mathlib.Core.List.{List, [], ◌∷◌, ◌++◌, Memᴰ as In}
use Prim.Native.Nat.{ℕ, suc, ◌+◌, ◌≤◌, ◌<◌}
use native.Mathlib.Omega.{arith}
use lib.Dec.{eqb, leb, ltb}
use lib.ListN.{length, get_or, set}
use lib.Seq.{get_or-set_other}
use borrow.Author.Tests.{eqb-true, ltb-true, ltb-false, lt-ltb, le-ltb, leb-true, ne_eqb}
use Rattle.lists.specs.Lists.{keep, repeated}
use Rattle.lists.proofs.Tests.{two, or_false, or_right}
use Rattle.lists.proofs.Keep.{keep_append, keep_same, keep_false}
use Rattle.lists.proofs.Different.{different_parts}
use Rattle.model.specs.Plan.{Lines}
use Rattle.model.specs.Bus.{row_bytes}
use Rattle.model.specs.Log.{Placed, Log, of_row, full_ticks, span}
use Rattle.model.specs.Planning.{pack}
use Rattle.laws.proofs.Steps.{pack_in}
use Rattle.log_queries.specs.Holding.{Held}
use Rattle.log_queries.proofs.Held.{held_put, held_same}
use Rattle.planner_sends.specs.Packing.{Load, laid, passed, tried}
use Rattle.planner_sends.proofs.Rows.{try_all}

keep_none : (f : Placed → Bool) (xs : Log) → ((x : Placed) → In x xs → f x ≡ false) → keep f xs ≡ []
keep_none f xs h = keep_same f (λ x. false) xs h ∙ keep_false (λ x. false) xs (λ x. refl)

-- an item in front of some others, or behind them: no difference where none of them is of its row
moved : (x : Placed) (ys log : Log) → ((y : Placed) → In y ys → y.row ≡ x.row → ⊥) → (r : ℕ) → of_row (x ∷ ys ++ log) r ≡ of_row (ys ++ (x ∷ log)) r
moved x ys log h r = at (eqb x.row r) refl
  where
    at : (b : Bool) → eqb x.row r ≡ b → (if b then (x ∷ keep (λ y. eqb y.row r) (ys ++ log)) else keep (λ y. eqb y.row r) (ys ++ log)) ≡ of_row (ys ++ (x ∷ log)) r
    at true e =
        let q : x.row ≡ r = eqb-true _ _ e in
        let none : keep (λ y. eqb y.row r) ys ≡ [] = keep_none (λ y. eqb y.row r) ys (λ y m. ne_eqb y.row r (λ z. h y m (z ∙ sym q))) in
        ap (λ (l : Log). x ∷ l) (keep_append (λ y. eqb y.row r) ys log ∙ ap (λ (l : Log). l ++ keep (λ y. eqb y.row r) log) none)
        ∙ sym (keep_append (λ y. eqb y.row r) ys (x ∷ log)
        ∙ ap (λ (l : Log). l ++ keep (λ y. eqb y.row r) (x ∷ log)) none
        ∙ ap (λ (b : Bool). if b then (x ∷ keep (λ y. eqb y.row r) log) else keep (λ y. eqb y.row r) log) e)
    at false e =
        keep_append (λ y. eqb y.row r) ys log
        ∙ sym (keep_append (λ y. eqb y.row r) ys (x ∷ log)
        ∙ ap (λ (b : Bool). keep (λ y. eqb y.row r) ys ++ (if b then (x ∷ keep (λ y. eqb y.row r) log) else keep (λ y. eqb y.row r) log)) e)

module _ (p : Lines) (room t end : ℕ) where
  -- a row that is an item of the slot
  pub record Item (r : ℕ) : Type 0 where
    pub row_in : r < 198
    pub no_process : length p.processes ≤ r
    pub ends : suc (t + span p (full_ticks p) r) ≡ end
    pub some : 1 ≤ row_bytes p r

  abbrev all_of : List ℕ → Load → Load
  all_of = try_all room end (row_bytes p)

  pub packs_held : (rs : List ℕ) (log : Log) (s : Load) → repeated rs ≡ false → ((r : ℕ) → In r rs → Item r) → ((r : ℕ) → In r rs → get_or s.comes r 0 ≡ 0) →
      s.used ≤ room → Held p log s.comes s.place →
      Held p (pack p room t s.used rs ++ log) (try_all room end (row_bytes p) rs s).comes (try_all room end (row_bytes p) rs s).place
  unfolding pack try_all tried laid passed
  packs_held [] log s d item free le h = h
  packs_held (r ∷ rs) log s d item free le h =
      at (ltb s.used room) (leb (s.used + row_bytes p r) room) refl refl
      (packs_held rs log (passed s) n.1 (λ r m. item r (there m)) (λ r m. free r (there m)) le h)
      (λ l. packs_held rs (x ∷ log) (laid end r (row_bytes p r) s) n.1 (λ r m. item r (there m))
      (λ q m. get_or-set_other s.comes r q end 0 (λ z. n.0 (subst (λ (y : ℕ). In y rs) z m)) ∙ free q (there m)) l put)
    where
      n : (In r rs → ⊥) × (repeated rs ≡ false)
      n = different_parts r rs d

      i : Item r
      i = item r (here refl)

      x : Placed
      x = record { row = r; tick = t; place = s.used }

      put : Held p (x ∷ log) (set s.comes r end) (set s.place r s.used)
      put = subst (λ (e : ℕ). Held p (x ∷ log) (set s.comes r e) (set s.place r s.used)) i.ends
          (held_put p log s.comes s.place x h i.row_in (free r (here refl)) (λ l. absurd (let z = i.no_process in omega arith)))

      rest : Log
      rest = pack p room t (s.used + row_bytes p r) rs

      at : (a b : Bool) → ltb s.used room ≡ a → leb (s.used + row_bytes p r) room ≡ b →
          Held p (pack p room t s.used rs ++ log) (all_of rs (passed s)).comes (all_of rs (passed s)).place →
          (s.used + row_bytes p r ≤ room →
          Held p (pack p room t (s.used + row_bytes p r) rs ++ (x ∷ log)) (all_of rs (laid end r (row_bytes p r) s)).comes (all_of rs (laid end r (row_bytes p r) s)).place) →
          Held p (elim b [ true ↦ record { row = r; tick = t; place = s.used } ∷ pack p room t (s.used + row_bytes p r) rs | false ↦ pack p room t s.used rs ] ++ log)
          (all_of rs (if a && b then laid end r (row_bytes p r) s else passed s)).comes (all_of rs (if a && b then laid end r (row_bytes p r) s else passed s)).place
      at true true ea eb over on =
          held_same p (rest ++ (x ∷ log)) (x ∷ rest ++ log) (all_of rs (laid end r (row_bytes p r) s)).comes (all_of rs (laid end r (row_bytes p r) s)).place
          (moved x rest log (λ y m q. n.0 (subst (λ (z : ℕ). In z rs) q (pack_in p room t y (s.used + row_bytes p r) rs m).1))) (on (leb-true _ _ eb))
      at true false ea eb over on = over
      at false true ea eb over on =
          let l : s.used + row_bytes p r ≤ room = leb-true _ _ eb in
          let m : room ≤ s.used = ltb-false _ _ ea in
          absurd (omega (arith, i.some))
      at false false ea eb over on = over

  -- whether something is passed over
  packs_few : (at : ℕ) (rs : List ℕ) → length (pack p room t at rs) ≤ length rs
  unfolding pack
  packs_few at [] = omega arith
  packs_few at (r ∷ rs) = go (leb (at + row_bytes p r) room) (packs_few (at + row_bytes p r) rs) (packs_few at rs)
    where
      go : (b : Bool) → length (pack p room t (at + row_bytes p r) rs) ≤ length rs → length (pack p room t at rs) ≤ length rs →
          length {A = Placed} (elim b [ true ↦ record { row = r; tick = t; place = at } ∷ pack p room t (at + row_bytes p r) rs | false ↦ pack p room t at rs ]) ≤ suc (length rs)
      go true a b = omega arith
      go false a b = omega arith

  one_more : (a b : ℕ) → ltb (suc a) (suc b) ≡ ltb a b
  one_more a b = at (two (ltb a b))
    where
      at : (ltb a b ≡ true) ⊎ (ltb a b ≡ false) → ltb (suc a) (suc b) ≡ ltb a b
      at (inl e) = let l : a < b = ltb-true _ _ e in lt-ltb (suc a) (suc b) (omega arith) ∙ sym e
      at (inr e) = let l : b ≤ a = ltb-false _ _ e in le-ltb (suc a) (suc b) (omega arith) ∙ sym e

  pub packs_short : (rs : List ℕ) (s : Load) → ((r : ℕ) → In r rs → 1 ≤ row_bytes p r) →
      (try_all room end (row_bytes p) rs s).short ≡ (s.short || ltb (length (pack p room t s.used rs)) (length rs))
  unfolding pack try_all tried laid passed
  packs_short [] s some = sym (ap (λ (b : Bool). s.short || b) (le-ltb 0 0 (omega arith)) ∙ or_false s.short)
  packs_short (r ∷ rs) s some =
      at (ltb s.used room) (leb (s.used + row_bytes p r) room) refl refl
      (packs_short rs (passed s) (λ r m. some r (there m))) (packs_short rs (laid end r (row_bytes p r) s) (λ r m. some r (there m)))
    where
      left : (s.short || ltb (length (pack p room t s.used rs)) (suc (length rs))) ≡ true
      left = or_right s.short _ (lt-ltb (length (pack p room t s.used rs)) (suc (length rs)) (let l = packs_few s.used rs in omega arith))

      at : (a b : Bool) → ltb s.used room ≡ a → leb (s.used + row_bytes p r) room ≡ b →
          (all_of rs (passed s)).short ≡ true →
          (all_of rs (laid end r (row_bytes p r) s)).short ≡ (s.short || ltb (length (pack p room t (s.used + row_bytes p r) rs)) (length rs)) →
          (all_of rs (if a && b then laid end r (row_bytes p r) s else passed s)).short
          ≡ (s.short || ltb (length {A = Placed} (elim b [ true ↦ record { row = r; tick = t; place = s.used } ∷ pack p room t (s.used + row_bytes p r) rs | false ↦ pack p room t s.used rs ])) (suc (length rs)))
      at true true ea eb over on = on ∙ ap (λ (b : Bool). s.short || b) (sym (one_more (length (pack p room t (s.used + row_bytes p r) rs)) (length rs)))
      at true false ea eb over on = over ∙ sym left
      at false true ea eb over on =
          let l : s.used + row_bytes p r ≤ room = leb-true _ _ eb in
          let m : room ≤ s.used = ltb-false _ _ ea in
          absurd (omega (arith, some r (here refl)))
      at false false ea eb over on = over ∙ sym left
