-- What refusal 13 leaves of an entry, as a record; and bits within those of a small number.
-- Assumes nothing.
use mathlib.Core.Path.{◌≡◌, refl}
use mathlib.Core.Bool.{true, false, not, ◌&&◌}
use Prim.Native.Nat.{ℕ, zero, suc, ◌/◌, ◌%◌, ◌^◌, ◌≤◌, ◌<◌}
use native.Mathlib.Nat.{pow-suc}
use native.Mathlib.Omega.{arith}
use borrow.Author.Tests.{ltb-false, leb-true, leb-false, not-false}
use lib.Dec.{leb, ltb}
use lib.ListN.{length}
use Rattle.lists.proofs.Tests.{both, join, neither, not_both, is_not}
use Rattle.model.specs.Plan.{Lines, local}
use Rattle.model.specs.Bus.{rows, is_process, is_edge, row_edge}
use Rattle.model.specs.Table.{Entry, bits_within}
use Rattle.model.specs.Checking.{ill_formed}

pub record Formed (p : Lines) (e : Entry) : Type 0 where
  pub row_in : e.row < rows p
  pub between : is_process p e.row ≡ false → is_edge p e.row ≡ true → local p (row_edge p e.row) ≡ false
  pub known_in : e.known < 2 ^ length p.conditions
  pub values_in : bits_within 32 e.values e.known ≡ true
  pub tick_in : e.tick ≤ 999999999
  pub place_in : e.place ≤ 63
  pub no_place : is_process p e.row ≡ true → e.place ≡ 0

pub formed : (p : Lines) (e : Entry) → ill_formed p e ≡ false → Formed p e
unfolding ill_formed
formed p e h =
    let a7 = neither _ (is_process p e.row && ltb 0 e.place) h in
    let a6 = neither _ (ltb 63 e.place) a7.0 in
    let a5 = neither _ (ltb 999999999 e.tick) a6.0 in
    let a4 = neither _ (not (bits_within 32 e.values e.known)) a5.0 in
    let a3 = neither _ (leb (2 ^ length p.conditions) e.known) a4.0 in
    let a2 = neither (leb (rows p) e.row) (not (is_process p e.row) && is_edge p e.row && local p (row_edge p e.row)) a3.0 in
    record {
      row_in = leb-false _ _ a2.0;
      between = λ a b. not_both (not (is_process p e.row) && is_edge p e.row) (local p (row_edge p e.row)) a2.1 (join (not (is_process p e.row)) (is_edge p e.row) (is_not _ a) b);
      known_in = leb-false _ _ a3.1;
      values_in = not-false _ a4.1;
      tick_in = ltb-false _ _ a5.1;
      place_in = ltb-false _ _ a6.1;
      no_place = λ a. let l = ltb-false 0 e.place (not_both (is_process p e.row) (ltb 0 e.place) a7.1 a) in omega arith;
    }

-- bits within those of a small number are small
none_within : (m a : ℕ) → a < 2 ^ m → bits_within m a 0 ≡ true → a ≡ 0
unfolding bits_within
none_within zero a l h = omega arith
none_within (suc m) a l h =
    let b = both (leb (a % 2) 0) (bits_within m (a / 2) 0) h in
    let u = leb-true (a % 2) 0 b.0 in
    let v = none_within m (a / 2) (omega (arith, pow-suc 2 m)) b.1 in
    omega arith

pub within_small : (m n a b : ℕ) → n ≤ m → b < 2 ^ n → a < 2 ^ m → bits_within m a b ≡ true → (a < 2 ^ n) × (bits_within n a b ≡ true)
unfolding bits_within
within_small m zero a b l k u h = let z : b ≡ 0 = omega arith in let q = none_within m a u (rw z at h) in (omega arith, refl)
within_small zero (suc n) a b l k u h = absurd (omega arith)
within_small (suc m) (suc n) a b l k u h =
    let c = both (leb (a % 2) (b % 2)) (bits_within m (a / 2) (b / 2)) h in
    let r = within_small m n (a / 2) (b / 2) (omega arith) (omega (arith, pow-suc 2 n)) (omega (arith, pow-suc 2 m)) c.1 in
    (omega (arith, r.0, pow-suc 2 n), join (leb (a % 2) (b % 2)) (bits_within n (a / 2) (b / 2)) c.0 r.1)
