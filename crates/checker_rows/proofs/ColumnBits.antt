-- An entry in which refusal 13 finds nothing is met in a combination just where its values are the bits of the
-- combination's number that the entry's known bits pick out.
-- Assumes nothing.
use Rattle.std.specs.Prelude.{if◌then◌else◌}
use mathlib.Core.Path.{◌≡◌, refl, sym, ap, ◌∙◌}
use mathlib.Core.Logic.{◌⊎◌, inl, inr}
use mathlib.Core.Bool.{Bool, true, false, ◌&&◌}
use mathlib.Core.List.{List, [], ◌∷◌}
use Prim.Native.Nat.{ℕ, zero, suc, ◌+◌, ◌*◌, ◌/◌, ◌%◌, ◌^◌, ◌≤◌, ◌<◌, min}
use native.Mathlib.Nat.{pow-suc}
use native.Mathlib.Omega.{arith}
use lib.Bits.{bit_and, and_step}
use lib.Dec.{eqb, leb}
use lib.ListN.{length, get_or}
use borrow.Author.Tests.{eqb-true, eqb-false, eq-eqb, ne_eqb, leb-true, leb-false, ltb-false, lt-ltb, not-false}
use Rattle.lists.proofs.Tests.{two, both, neither, not_both, same_test}
use Rattle.lists.proofs.Members.{in_getD}
use Rattle.model.specs.Plan.{Lines}
use Rattle.model.specs.Activity.{all_heard, combinations}
use Rattle.model.specs.Bus.{rows}
use Rattle.model.specs.Table.{Entry, known_bits, value_bits, bit_met, bits_met, bits_within, column_met}
use Rattle.model.specs.Checking.{ill_formed}
use Rattle.laws.proofs.Good.{Good}
use Rattle.laws.proofs.Columns.{none_known}
use Rattle.laws.proofs.Combinations.{combination_length}
use Rattle.bitset.specs.Masks.{under, number_of}
use Rattle.bitset.proofs.Built.{under_low, under_rest}
use Rattle.bitset.proofs.Numbered.{mask_shift, combinations_count, combination_number}
use Rattle.checker_rows.specs.MetRows.{met_in}

-- what refusal 13 leaves of an entry
pub record Formed (p : Lines) (e : Entry) : Type 0 where
  pub row_in : e.row < rows p
  pub known_few : e.known < 2 ^ length p.conditions
  pub values_in : bits_within 32 e.values e.known ≡ true
  pub tick_most : e.tick ≤ 999999999
  pub place_most : e.place ≤ 63
  pub no_place : e.row < length p.processes → e.place ≡ 0

pub formed : (p : Lines) (e : Entry) → ill_formed p e ≡ false → Formed p e
unfolding ill_formed
formed p e f =
    let a7 = neither _ _ f in
    let a6 = neither _ _ a7.0 in
    let a5 = neither _ _ a6.0 in
    let a4 = neither _ _ a5.0 in
    let a3 = neither _ _ a4.0 in
    let a2 = neither _ _ a3.0 in
    record {
      row_in = leb-false _ _ a2.0;
      known_few = leb-false _ _ a3.1;
      values_in = not-false _ a4.1;
      tick_most = ltb-false _ _ a5.1;
      place_most = ltb-false _ _ a6.1;
      no_place = λ l. let z = ltb-false 0 e.place (not_both _ _ a7.1 (lt-ltb e.row (length p.processes) l)) in omega arith;
    }

-- where no bit is known
within_none : (m v : ℕ) → bits_within m v 0 ≡ true → v < 2 ^ m → v ≡ 0
unfolding bits_within
within_none zero v w l = omega arith
within_none (suc m) v w l =
    let b = both (leb (v % 2) 0) (bits_within m (v / 2) 0) w in
    let q = leb-true (v % 2) 0 b.0 in
    let r = within_none m (v / 2) b.1 (omega (arith, pow-suc 2 m)) in
    omega arith

-- a number by its lowest bit and the others
halved : (v a d : ℕ) → v % 2 ≡ d → eqb (v / 2) a ≡ eqb v (a * 2 + d)
halved v a d q =
    same_test (eqb (v / 2) a) (eqb v (a * 2 + d))
    (λ e. let r = eqb-true (v / 2) a e in eq-eqb v (a * 2 + d) (omega arith))
    (λ e. let r = eqb-true v (a * 2 + d) e in eq-eqb (v / 2) a (omega arith))

other_half : (v a d : ℕ) → v % 2 + d ≡ 1 → false ≡ eqb v (a * 2 + d)
other_half v a d q = sym (ne_eqb v (a * 2 + d) (λ e. omega arith))

-- one bit is met, and the others are
low_bit : (b : Bool) (k v a : ℕ) → v % 2 ≤ k % 2 →
    (bit_met (k % 2) (v % 2) 1 (if b then 1 else 0) && eqb (v / 2) a) ≡ eqb v (a * 2 + min (if b then 1 else 0) (k % 2))
low_bit b k v a l = at b (two (eqb (k % 2) 0)) (two (eqb (v % 2) 0))
  where
    at : (b : Bool) → (eqb (k % 2) 0 ≡ true) ⊎ (eqb (k % 2) 0 ≡ false) → (eqb (v % 2) 0 ≡ true) ⊎ (eqb (v % 2) 0 ≡ false) →
        (bit_met (k % 2) (v % 2) 1 (if b then 1 else 0) && eqb (v / 2) a) ≡ eqb v (a * 2 + min (if b then 1 else 0) (k % 2))
    at true (inl e) f = let q : k % 2 ≡ 0 = eqb-true _ _ e in rw q (halved v a 0 (omega arith))
    at false (inl e) f = let q : k % 2 ≡ 0 = eqb-true _ _ e in rw q (halved v a 0 (omega arith))
    at true (inr e) (inl f) =
        let n : k % 2 ≡ 0 → ⊥ = eqb-false _ _ e in
        let q : k % 2 ≡ 1 = omega (arith, n) in
        let z : v % 2 ≡ 0 = eqb-true _ _ f in
        rw (q, z) (other_half v a 1 (omega arith))
    at true (inr e) (inr f) =
        let n : k % 2 ≡ 0 → ⊥ = eqb-false _ _ e in
        let q : k % 2 ≡ 1 = omega (arith, n) in
        let m : v % 2 ≡ 0 → ⊥ = eqb-false _ _ f in
        let z : v % 2 ≡ 1 = omega (arith, m) in
        rw (q, z) (halved v a 1 z)
    at false (inr e) (inl f) =
        let n : k % 2 ≡ 0 → ⊥ = eqb-false _ _ e in
        let q : k % 2 ≡ 1 = omega (arith, n) in
        let z : v % 2 ≡ 0 = eqb-true _ _ f in
        rw (q, z) (halved v a 0 z)
    at false (inr e) (inr f) =
        let n : k % 2 ≡ 0 → ⊥ = eqb-false _ _ e in
        let q : k % 2 ≡ 1 = omega (arith, n) in
        let m : v % 2 ≡ 0 → ⊥ = eqb-false _ _ f in
        let z : v % 2 ≡ 1 = omega (arith, m) in
        rw (q, z) (other_half v a 0 (omega arith))

-- a column's lowest bit and the others
within_open : (m k v : ℕ) → bits_within (suc m) v k ≡ true → (v % 2 ≤ k % 2) × (bits_within m (v / 2) (k / 2) ≡ true)
unfolding bits_within
within_open m k v w = let q = both (leb (v % 2) (k % 2)) (bits_within m (v / 2) (k / 2)) w in (leb-true _ _ q.0, q.1)

met_open : (b : Bool) (m k v h n : ℕ) →
    bits_met (suc m) k v (under true h) (under b n) ≡ (bit_met (k % 2) (v % 2) 1 (if b then 1 else 0) && bits_met m (k / 2) (v / 2) h n)
unfolding bits_met
met_open b m k v h n = λ i. bit_met (k % 2) (v % 2) (under_low true h i) (under_low b n i) && bits_met m (k / 2) (v / 2) (under_rest true h i) (under_rest b n i)

-- bit by bit, where everything is heard
all_bits : (m : ℕ) (c : List Bool) (k v : ℕ) → length c ≤ m → k < 2 ^ length c → v < 2 ^ m → bits_within m v k ≡ true →
    bits_met m k v (known_bits (all_heard c)) (value_bits (all_heard c)) ≡ eqb v (bit_and (value_bits (all_heard c)) k)
all_bits m [] k v s l u w =
    let z : k ≡ 0 = omega arith in
    let y : v ≡ 0 = within_none m v (rw z at w) u in
    rw (z, y) (none_known m 0)
all_bits zero (b ∷ c) k v s l u w = absurd (omega arith)
all_bits (suc m) (b ∷ c) k v s l u w =
    let h : ℕ = known_bits (all_heard c) in
    let n : ℕ = value_bits (all_heard c) in
    let t = within_open m k v w in
    met_open b m k v h n
    ∙ ap (λ (x : Bool). bit_met (k % 2) (v % 2) 1 (if b then 1 else 0) && x)
    (all_bits m c (k / 2) (v / 2) (omega arith) (omega (arith, pow-suc 2 (length c))) (omega (arith, pow-suc 2 m)) t.1)
    ∙ low_bit b k v (bit_and n (k / 2)) t.0
    ∙ ap (eqb v) (sym (both_bits n))
  where
    both_bits : (n : ℕ) → bit_and (under b n) k ≡ bit_and n (k / 2) * 2 + min (if b then 1 else 0) (k % 2)
    both_bits n = and_step (under b n) k ∙ (λ i. bit_and (under_rest b n i) (k / 2) * 2 + min (under_low b n i) (k % 2))

-- the values of a combination are its number
values_number : (c : List Bool) → value_bits (all_heard c) ≡ number_of (length c) c
values_number [] = refl
values_number (b ∷ c) = ap (under b) (values_number c ∙ sym (mask_shift (λ k. get_or (b ∷ c) k false) 0 (length c)))

module _ (p : Lines) (g : Good p) (c : ℕ) (l : c < 2 ^ length p.conditions) where
  pub numbered_length : length (get_or (combinations p) c []) ≡ length p.conditions
  numbered_length = combination_length p (get_or (combinations p) c []) (in_getD (combinations p) c [] (omega (arith, combinations_count (length p.conditions))))

  pub column_same : (e : Entry) → Formed p e → e.values < 2 ^ 32 → column_met (all_heard (get_or (combinations p) c [])) e ≡ met_in c e
  unfolding column_met
  column_same e f s =
      let d : List Bool = get_or (combinations p) c [] in
      let q : length d ≡ length p.conditions = numbered_length in
      let k : e.known < 2 ^ length d = rw q f.known_few in
      let o = g.few_conditions in
      all_bits 32 d e.known e.values (omega arith) k s f.values_in
      ∙ ap (λ (x : ℕ). eqb e.values (bit_and x e.known))
      (values_number d ∙ ap (λ (n : ℕ). number_of n d) q ∙ combination_number (length p.conditions) c l)
