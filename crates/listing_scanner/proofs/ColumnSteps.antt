-- A column while it is read, condition by condition.
-- Assumes nothing.
use mathlib.Core.Path.{◌≡◌, refl, ap, sym, subst, ◌∙◌}
use mathlib.Core.Logic.{◌⊎◌, inl, inr}
use mathlib.Core.List.{List}
use Prim.Native.Nat.{ℕ, zero, suc, ◌+◌, ◌-◌, ◌*◌, ◌^◌, ◌≤◌, ◌<◌}
use native.Mathlib.Nat.{mul_assoc, mul_comm, mul-add, pow-suc, pow-le-pow_right}
use native.Mathlib.Numerals.{add-one}
use native.Mathlib.Omega.{arith}
use lib.ListN.{length, drop}
use Rattle.limits.specs.Limits.{CONDITIONS}
use Rattle.model.specs.Text.{text as text_of}
use Rattle.text_grammar.specs.Parse.{Parsed, none, got, and_then, word_at, value_at}
use Rattle.listing_grammar.specs.Parse.{Column, no_column, unnamed, named, name_at, column_from}
use Rattle.listing_grammar.proofs.Columns.{name_sound, from_unnamed, from_named}
use Rattle.listing_scanner.specs.declared.columns.ColumnSofar.{ColumnSofar}
use Rattle.listing_scanner.specs.Columns.{Stepped, not_named, is_named}

-- a value is 0 or 1
pub value_one : (k v : ℕ) (s r : List ℕ) → got v r ≡ name_at k s → v ≤ 1
value_one k v s r h = at (name_sound k s v r (sym h))
  where
    at : {A B : Type 0} → ((v ≡ 1) × A) ⊎ ((v ≡ 0) × B) → v ≤ 1
    at (inl q) = let z = q.0 in omega arith
    at (inr q) = let z = q.0 in omega arith

pub small_product : (v bit : ℕ) → v ≤ 1 → v * bit ≤ bit
small_product zero bit l = omega arith
small_product (suc zero) bit l = omega arith
small_product (suc (suc v)) bit l = absurd (omega arith)

-- What is read so far, and what the rest gives, is the whole column.
abbrev pub more : ℕ → ℕ → ℕ → Column → Column
more known values bit c = record { known = known + bit * c.known; values = values + bit * c.values }

abbrev pub with_rest : ℕ → ℕ → ℕ → Parsed Column → Parsed Column
with_rest known values bit p = and_then p (λ c r. got (more known values bit c) r)

rest_unnamed : (known values bit : ℕ) (p : Parsed Column) → with_rest known values bit (and_then p (λ c r. got (unnamed c) r)) ≡ with_rest known values (bit * 2) p
rest_unnamed known values bit none = refl
rest_unnamed known values bit (got c r) =
    let a : bit * (2 * c.known) ≡ bit * 2 * c.known = sym (mul_assoc bit 2 c.known) in
    let b : bit * (2 * c.values) ≡ bit * 2 * c.values = sym (mul_assoc bit 2 c.values) in
    λ i. got (record { known = known + a i; values = values + b i }) r

rest_named : (known values bit v : ℕ) (p : Parsed Column) → with_rest known values bit (and_then p (λ c r. got (named v c) r)) ≡ with_rest (known + bit) (values + v * bit) (bit * 2) p
rest_named known values bit v none = refl
rest_named known values bit v (got c r) =
    let a : known + bit * (1 + 2 * c.known) ≡ known + bit + bit * 2 * c.known = omega (arith, mul-add bit 1 (2 * c.known), mul_assoc bit 2 c.known) in
    let b : values + bit * (v + 2 * c.values) ≡ values + v * bit + bit * 2 * c.values = omega (arith, mul-add bit v (2 * c.values), mul_assoc bit 2 c.values, mul_comm bit v) in
    λ i. got (record { known = a i; values = b i }) r

-- the reading of a column before condition k
pub record Reading (text : List ℕ) (first conditions : ℕ) (s : ColumnSofar) (bit k : ℕ) : Type 0 where
  pub low : k ≤ conditions
  pub within : s.at ≤ length text
  pub its_bit : bit ≡ 2 ^ k
  pub known_small : s.known < bit
  pub values_small : s.values < bit
  pub read : column_from 0 conditions (drop first text) ≡ with_rest s.known s.values bit (column_from k (conditions - k) (drop s.at text))

pub begun : (text : List ℕ) (first conditions : ℕ) → first ≤ length text → Reading text first conditions (record { known = 0; values = 0; at = first }) 1 0
begun text first conditions l =
    record {
      low = omega arith;
      within = l;
      its_bit = refl;
      known_small = omega arith;
      values_small = omega arith;
      read = whole (column_from 0 conditions (drop first text)) ∙ ap (λ (n : ℕ). with_rest 0 0 1 (column_from 0 n (drop first text))) (let z : conditions ≡ conditions - 0 = omega arith in z);
    }
  where
    whole : (p : Parsed Column) → p ≡ with_rest 0 0 1 p
    whole none = refl
    whole (got c r) =
        let a : c.known ≡ 0 + 1 * c.known = omega arith in
        let b : c.values ≡ 0 + 1 * c.values = omega arith in
        λ i. got (record { known = a i; values = b i }) r

module _ (text : List ℕ) (first conditions : ℕ) (s r : ColumnSofar) (bit k : ℕ) (l : k < conditions) (m : Reading text first conditions s bit k) where
  rest : conditions - k ≡ suc (conditions - (k + 1))
  rest = omega arith

  twice : bit * 2 ≡ 2 ^ (k + 1)
  twice = let z = m.its_bit in rw (add-one k) (omega (arith, pow-suc 2 k))

  pub stepped : Stepped text k bit s r → Reading text first conditions r (bit * 2) (k + 1)
  stepped (not_named e q) =
      let z : Reading text first conditions s (bit * 2) (k + 1) =
      record {
        low = omega arith;
        within = m.within;
        its_bit = twice;
        known_small = omega (arith, m.known_small);
        values_small = omega (arith, m.values_small);
        read =
            m.read
            ∙ ap (λ (n : ℕ). with_rest s.known s.values bit (column_from k n (drop s.at text))) rest
            ∙ ap (with_rest s.known s.values bit) (from_unnamed (conditions - (k + 1)) k (drop s.at text) e)
            ∙ rest_unnamed s.known s.values bit (column_from (suc k) (conditions - (k + 1)) (drop s.at text))
            ∙ ap (λ (n : ℕ). with_rest s.known s.values (bit * 2) (column_from n (conditions - (k + 1)) (drop s.at text))) (sym (add-one k));
      } in
      subst (λ (x : ColumnSofar). Reading text first conditions x (bit * 2) (k + 1)) (sym q) z
  stepped (is_named v one e w a b) =
      record {
        low = omega arith;
        within = w;
        its_bit = twice;
        known_small = omega (arith, m.known_small);
        values_small = omega (arith, m.values_small, small_product v bit one);
        read =
            m.read
            ∙ ap (λ (n : ℕ). with_rest s.known s.values bit (column_from k n (drop s.at text))) rest
            ∙ ap (with_rest s.known s.values bit) (from_named (conditions - (k + 1)) k (drop s.at text) v (drop r.at text) e)
            ∙ rest_named s.known s.values bit v (column_from (suc k) (conditions - (k + 1)) (drop r.at text))
            ∙ (λ i. with_rest (sym a i) (sym b i) (bit * 2) (column_from (sym (add-one k) i) (conditions - (k + 1)) (drop r.at text)));
      }

-- the bracket behind the last condition
pub over : (text : List ℕ) (first conditions : ℕ) (s : ColumnSofar) (bit k : ℕ) → conditions ≤ k → Reading text first conditions s bit k
    → column_from 0 conditions (drop first text) ≡ and_then (word_at (text_of ")") (drop s.at text)) (λ u r. got (record { known = s.known; values = s.values }) r)
unfolding column_from value_at
over text first conditions s bit k l m =
    let z : conditions - k ≡ 0 = omega arith in
    m.read ∙ ap (λ (n : ℕ). with_rest s.known s.values bit (column_from k n (drop s.at text))) z ∙ at (word_at (text_of ")") (drop s.at text))
  where
    at : (p : Parsed (Unit {0})) → with_rest s.known s.values bit (and_then p (λ u r. got no_column r)) ≡ and_then p (λ u r. got (record { known = s.known; values = s.values }) r)
    at none = refl
    at (got u r) =
        let a : s.known + bit * 0 ≡ s.known = omega arith in
        let b : s.values + bit * 0 ≡ s.values = omega arith in
        λ i. got (record { known = a i; values = b i }) r

pub bit_most : {text : List ℕ} {first conditions : ℕ} {s : ColumnSofar} {bit k : ℕ} → Reading text first conditions s bit k → k < conditions → conditions ≤ CONDITIONS → bit ≤ 32
bit_most {k = k} m l few =
    let j : k ≤ 5 = omega arith in
    let b : 2 ^ k ≤ 2 ^ 5 = pow-le-pow_right (omega arith) j in
    omega (arith, m.its_bit)
