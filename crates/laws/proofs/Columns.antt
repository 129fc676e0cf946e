-- Columns and what is heard: a column that is met stays met as more is heard, it is met as soon as its known bits are
-- heard, and what is known at a tick is part of the combination.
-- Assumes nothing.
use Rattle.std.specs.Prelude.{if◌then◌else◌}
use mathlib.Core.Path.{◌≡◌, refl, sym, ap, ◌∙◌, subst₂}
use mathlib.Core.Logic.{◌⊎◌, inl, inr}
use mathlib.Core.Bool.{Bool, true, false, ◌&&◌, ◌||◌, false≢true}
use mathlib.Core.List.{List, [], ◌∷◌, map}
use Prim.Native.Nat.{ℕ, zero, suc, ◌+◌, ◌/◌, ◌%◌, ◌^◌, ◌≤◌, ◌<◌}
use native.Mathlib.Nat.{not-suc-le-zero, zero-add, add-zero, pow-suc}
use native.Mathlib.Omega.{arith}
use lib.Dec.{eqb, leb}
use lib.ListN.{length, get_or, set}
use borrow.Author.Tests.{eq-eqb, eqb-true, eqb-false, leb-true, le-leb}
use Rattle.lists.specs.Lists.{upfrom}
use Rattle.lists.proofs.Tests.{two, both, join, or_left, or_right}
use Rattle.lists.proofs.Keep.{shift}
use Rattle.model.specs.Plan.{Lines}
use Rattle.model.specs.Activity.{Heard, unheard, heard, all_heard}
use Rattle.model.specs.Bus.{condition_row}
use Rattle.model.specs.Log.{known}
use Rattle.model.specs.Table.{known_bits, value_bits, bit_met, bits_met, bits_within}

-- h' has all that h has
pub data More : List Heard → List Heard → Type 0 where
  end : More [] []
  new : {y : Heard} {h h' : List Heard} → More h h' → More (unheard ∷ h) (y ∷ h')
  old : {y : Heard} {h h' : List Heard} → More h h' → More (y ∷ h) (y ∷ h')

-- the lowest bit, and the rest
low : Heard → ℕ
low unheard = 0
low (heard v) = 1

known_half : (y : Heard) (h : List Heard) → known_bits (y ∷ h) / 2 ≡ known_bits h
known_half unheard h = omega arith
known_half (heard v) h = omega arith

value_half : (y : Heard) (h : List Heard) → value_bits (y ∷ h) / 2 ≡ value_bits h
value_half unheard h = omega arith
value_half (heard true) h = omega arith
value_half (heard false) h = omega arith

known_low : (y : Heard) (h : List Heard) → known_bits (y ∷ h) % 2 ≡ low y
unfolding low
known_low unheard h = omega arith
known_low (heard v) h = omega arith

value_low : (y : Heard) (h : List Heard) → value_bits (y ∷ h) % 2 ≡ value_bits (y ∷ []) % 2
value_low unheard h = omega arith
value_low (heard true) h = omega arith
value_low (heard false) h = omega arith

-- a column is met bit by bit
abbrev Bit : ℕ → ℕ → Heard → Type 0
Bit k v y = bit_met (k % 2) (v % 2) (low y) (value_bits (y ∷ []) % 2) ≡ true

abbrev pub Met : ℕ → ℕ → ℕ → List Heard → Type 0
Met n k v h = bits_met n k v (known_bits h) (value_bits h) ≡ true

met_step : (n k v : ℕ) (y : Heard) (h : List Heard) →
    bits_met (suc n) k v (known_bits (y ∷ h)) (value_bits (y ∷ h))
    ≡ (bit_met (k % 2) (v % 2) (low y) (value_bits (y ∷ []) % 2) && bits_met n (k / 2) (v / 2) (known_bits h) (value_bits h))
unfolding bits_met
met_step n k v y h = λ i. bit_met (k % 2) (v % 2) (known_low y h i) (value_low y h i) && bits_met n (k / 2) (v / 2) (known_half y h i) (value_half y h i)

met_open : (n k v : ℕ) (y : Heard) (h : List Heard) → Met (suc n) k v (y ∷ h) → Bit k v y × Met n (k / 2) (v / 2) h
met_open n k v y h e = both _ (bits_met n (k / 2) (v / 2) (known_bits h) (value_bits h)) (sym (met_step n k v y h) ∙ e)

met_close : (n k v : ℕ) (y : Heard) (h : List Heard) → Bit k v y → Met n (k / 2) (v / 2) h → Met (suc n) k v (y ∷ h)
met_close n k v y h a b = met_step n k v y h ∙ join _ (bits_met n (k / 2) (v / 2) (known_bits h) (value_bits h)) a b

within_step : (n k : ℕ) (y : Heard) (h : List Heard) → bits_within (suc n) k (known_bits (y ∷ h)) ≡ (leb (k % 2) (low y) && bits_within n (k / 2) (known_bits h))
unfolding bits_within
within_step n k y h = λ i. leb (k % 2) (known_low y h i) && bits_within n (k / 2) (known_half y h i)

within_open : (n k : ℕ) (y : Heard) (h : List Heard) → bits_within (suc n) k (known_bits (y ∷ h)) ≡ true → (k % 2 ≤ low y) × (bits_within n (k / 2) (known_bits h) ≡ true)
within_open n k y h e =
    let b = both (leb (k % 2) (low y)) (bits_within n (k / 2) (known_bits h)) (sym (within_step n k y h) ∙ e) in
    (leb-true _ _ b.0, b.1)

-- a bit that is not known is met whatever is heard
unknown_bit : (k v : ℕ) (y : Heard) → k % 2 ≡ 0 → Bit k v y
unknown_bit k v y e = or_left (eqb (k % 2) 0) (eqb (low y) 1 && eqb (v % 2) (value_bits (y ∷ []) % 2)) (eq-eqb _ _ e)

-- where nothing is heard, only such a bit is met
from_none : (k v : ℕ) → Bit k v unheard → k % 2 ≡ 0
unfolding low
from_none k v e = eqb-true _ _ (at (eqb (k % 2) 0) e)
  where
    at : (a : Bool) → (a || (false && eqb (v % 2) 0)) ≡ true → a ≡ true
    at true q = refl
    at false q = q

pub met_more : (n k v : ℕ) {h h' : List Heard} → More h h' → Met n k v h → Met n k v h'
unfolding bits_met
met_more zero k v m e = refl
met_more (suc n) k v end e = e
met_more (suc n) k v (new {y = y} {h = h} {h' = h'} m) e =
    let s = met_open n k v unheard h e in
    met_close n k v y h' (unknown_bit k v y (from_none k v s.0)) (met_more n (k / 2) (v / 2) m s.1)
met_more (suc n) k v (old {y = y} {h = h} {h' = h'} m) e =
    let s = met_open n k v y h e in
    met_close n k v y h' s.0 (met_more n (k / 2) (v / 2) m s.1)

pub met_known : (n k v : ℕ) {h h' : List Heard} → More h h' → bits_within n k (known_bits h) ≡ true → Met n k v h' → Met n k v h
unfolding bits_met low
met_known zero k v m u e = refl
met_known (suc n) k v end u e = e
met_known (suc n) k v (new {y = y} {h = h} {h' = h'} m) u e =
    let b = within_open n k unheard h u in
    met_close n k v unheard h (unknown_bit k v unheard (let z = b.0 in omega arith)) (met_known n (k / 2) (v / 2) m b.1 (met_open n k v y h' e).1)
met_known (suc n) k v (old {y = y} {h = h} {h' = h'} m) u e =
    let s = met_open n k v y h' e in
    met_close n k v y h s.0 (met_known n (k / 2) (v / 2) m (within_open n k y h u).1 s.1)

-- A column that knows none but the first n conditions is met by some values of these.
pub none_known : (m v : ℕ) → bits_met m 0 v 0 0 ≡ true
unfolding bits_met
none_known zero v = refl
none_known (suc m) v = none_known m (v / 2)

own_bit : (k v : ℕ) (b : Bool) → eqb (v % 2) 1 ≡ b → Bit k v (heard b)
unfolding low
own_bit k v true e = or_right (eqb (k % 2) 0) _ e
own_bit k v false e = or_right (eqb (k % 2) 0) _ (eq-eqb (v % 2) 0 (let q = eqb-false (v % 2) 1 e in omega arith))

pub met_by : (m n k v : ℕ) → n ≤ m → k < 2 ^ n → (c : List Bool) × (length c ≡ n) × Met m k v (all_heard c)
met_by m zero k v l u = let q : k ≡ 0 = omega arith in ([], refl, rw q (none_known m v))
met_by zero (suc n) k v l u = absurd (omega arith)
met_by (suc m) (suc n) k v l u =
    let r = met_by m n (k / 2) (v / 2) (omega arith) (omega (arith, pow-suc 2 n)) in
    let b = eqb (v % 2) 1 in
    (b ∷ r.0, ap suc r.1, met_close m k v (heard b) (all_heard r.0) (own_bit k v b refl) r.2)

-- A column that a combination meets is met too with another value of condition k, or else it names k: where its bits
-- are known, k is.
abbrev pub Named : ℕ → ℕ → List Bool → ℕ → Type 0
Named n kn c k = (h : List Heard) → More h (all_heard c) → bits_within n kn (known_bits h) ≡ true → get_or h k unheard ≡ heard (get_or c k false)

module _ (v : Bool) where
  pub other_value : (n kn vl : ℕ) (c : List Bool) (k : ℕ) → k < n → k < length c → Met n kn vl (all_heard c) → Met n kn vl (all_heard (set c k v)) ⊎ Named n kn c k
  unfolding low
  other_value zero kn vl c k u l m = absurd (not-suc-le-zero u)
  other_value (suc n) kn vl [] k u l m = absurd (not-suc-le-zero l)
  other_value (suc n) kn vl (b ∷ c) zero u l m = at (two (eqb (kn % 2) 0))
    where
      one : (h : List Heard) → More h (heard b ∷ all_heard c) → bits_within (suc n) kn (known_bits h) ≡ true → (kn % 2 ≡ 0 → ⊥) → get_or h 0 unheard ≡ heard b
      one h (new {h = h'} r) w d = absurd (d (let z = (within_open n kn unheard h' w).0 in omega arith))
      one h (old r) w d = refl

      at : (eqb (kn % 2) 0 ≡ true) ⊎ (eqb (kn % 2) 0 ≡ false) → Met (suc n) kn vl (heard v ∷ all_heard c) ⊎ Named (suc n) kn (b ∷ c) 0
      at (inl e) = inl (met_close n kn vl (heard v) (all_heard c) (unknown_bit kn vl (heard v) (eqb-true _ _ e)) (met_open n kn vl (heard b) (all_heard c) m).1)
      at (inr e) = inr (λ h r w. one h r w (eqb-false (kn % 2) 0 e))
  other_value (suc n) kn vl (b ∷ c) (suc k) u l m =
      let s = met_open n kn vl (heard b) (all_heard c) m in
      at s.0 (other_value n (kn / 2) (vl / 2) c k (omega arith) (omega arith) s.1)
    where
      rest : Named n (kn / 2) c k → (h : List Heard) → More h (heard b ∷ all_heard c) → bits_within (suc n) kn (known_bits h) ≡ true → get_or h (suc k) unheard ≡ heard (get_or c k false)
      rest f h (new {h = h'} r) w = f h' r (within_open n kn unheard h' w).1
      rest f h (old {h = h'} r) w = f h' r (within_open n kn (heard b) h' w).1

      at : Bit kn vl (heard b) → Met n (kn / 2) (vl / 2) (all_heard (set c k v)) ⊎ Named n (kn / 2) c k → Met (suc n) kn vl (heard b ∷ all_heard (set c k v)) ⊎ Named (suc n) kn (b ∷ c) (suc k)
      at s (inl q) = inl (met_close n kn vl (heard b) (all_heard (set c k v)) s q)
      at s (inr q) = inr (rest q)

-- Bits of what is known: the values lie within the known, and both are below 2 to the number of conditions.
pub within_same : (n a : ℕ) → bits_within n a a ≡ true
unfolding bits_within
within_same zero a = refl
within_same (suc n) a = join _ _ (le-leb (a % 2) (a % 2) (omega arith)) (within_same n (a / 2))

pub values_within : (n : ℕ) (h : List Heard) → bits_within n (value_bits h) (known_bits h) ≡ true
unfolding bits_within
values_within zero h = refl
values_within (suc n) [] = within_same (suc n) 0
values_within (suc n) (y ∷ h) =
    join (leb (value_bits (y ∷ h) % 2) (known_bits (y ∷ h) % 2)) (bits_within n (value_bits (y ∷ h) / 2) (known_bits (y ∷ h) / 2))
    (le-leb (value_bits (y ∷ h) % 2) (known_bits (y ∷ h) % 2) (at y)) (rw (value_half y h, known_half y h) (values_within n h))
  where
    at : (y : Heard) → value_bits (y ∷ h) % 2 ≤ known_bits (y ∷ h) % 2
    at unheard = omega arith
    at (heard true) = omega arith
    at (heard false) = omega arith

pub value_most : (h : List Heard) → value_bits h ≤ known_bits h
value_most [] = omega arith
value_most (unheard ∷ h) = let q = value_most h in omega arith
value_most (heard true ∷ h) = let q = value_most h in omega arith
value_most (heard false ∷ h) = let q = value_most h in omega arith

pub known_small : (h : List Heard) → known_bits h < 2 ^ length h
known_small [] = omega arith
known_small (unheard ∷ h) = omega (arith, known_small h, pow-suc 2 (length h))
known_small (heard v ∷ h) = omega (arith, known_small h, pow-suc 2 (length h))

-- what is known meets its own column
pub met_self : (n k v : ℕ) → bits_met n k v k v ≡ true
unfolding bits_met
met_self zero k v = refl
met_self (suc n) k v = join _ _ (at (two (eqb (k % 2) 0))) (met_self n (k / 2) (v / 2))
  where
    at : (eqb (k % 2) 0 ≡ true) ⊎ (eqb (k % 2) 0 ≡ false) → bit_met (k % 2) (v % 2) (k % 2) (v % 2) ≡ true
    at (inl e) = rw e
    at (inr e) =
        let q : k % 2 ≡ 0 → ⊥ = eqb-false (k % 2) 0 e in
        rw (e, eq-eqb (k % 2) 1 (omega (arith, q)), eq-eqb (v % 2) (v % 2) refl)

bit_agree : (w b : Bool) → bit_met 1 (value_bits (heard w ∷ []) % 2) 1 (value_bits (heard b ∷ []) % 2) ≡ true → b ≡ w
bit_agree true true e = refl
bit_agree true false e = absurd (false≢true e)
bit_agree false true e = absurd (false≢true e)
bit_agree false false e = refl

-- a combination that meets the column of what is known has the values that are known
pub bits_agree : (n : ℕ) (h : List Heard) (c : List Bool) → length h ≤ n → length h ≡ length c → Met n (known_bits h) (value_bits h) (all_heard c) →
    (k : ℕ) (v : Bool) → get_or h k unheard ≡ heard v → get_or c k false ≡ v
unfolding low
bits_agree n [] c l s m k v e = absurd (let z : ◌≡◌ {A = ℕ} 0 1 = cc in omega arith)
bits_agree n (y ∷ h) [] l s m k v e = absurd (omega arith)
bits_agree zero (y ∷ h) (b ∷ c) l s m k v e = absurd (not-suc-le-zero l)
bits_agree (suc n) (y ∷ h) (b ∷ c) l s m zero v e =
    let bit : Bit (known_bits (y ∷ h)) (value_bits (y ∷ h)) (heard b) = (met_open n (known_bits (y ∷ h)) (value_bits (y ∷ h)) (heard b) (all_heard c) m).0 in
    let own : bit_met (low y) (value_bits (y ∷ []) % 2) 1 (value_bits (heard b ∷ []) % 2) ≡ true =
    subst₂ (λ (a d : ℕ). bit_met a d 1 (value_bits (heard b ∷ []) % 2) ≡ true) (known_low y h) (value_low y h) bit in
    bit_agree v b (rw e at own)
bits_agree (suc n) (y ∷ h) (b ∷ c) l s m (suc k) v e =
    let rest = (met_open n (known_bits (y ∷ h)) (value_bits (y ∷ h)) (heard b) (all_heard c) m).1 in
    bits_agree n h c (omega arith) (omega arith) (rw (known_half y h, value_half y h) at rest) k v e

-- what is known is part of the combination
known_more : (c : List Bool) (done value : ℕ → Bool) (from : ℕ) → ((i : ℕ) → value (from + i) ≡ get_or c i false) →
    More (map (λ k. if done k then heard (value k) else unheard) (upfrom from (length c))) (all_heard c)
known_more [] done value from e = end
known_more (v ∷ c) done value from e =
    at (done from) (value from) (ap value (sym (add-zero from)) ∙ e 0) (known_more c done value (suc from) (λ i. ap value (shift from i) ∙ e (suc i)))
  where
    at : (b w : Bool) → w ≡ v → {h : List Heard} → More h (all_heard c) → More ((if b then heard w else unheard) ∷ h) (heard v ∷ all_heard c)
    at true w q r = rw q (old r)
    at false w q r = new r

pub known_part : (p : Lines) (c : List Bool) → length c ≡ length p.conditions → (done : ℕ → Bool) → More (known p c done) (all_heard c)
unfolding known
known_part p c count done = rw (← count) (known_more c (λ k. done (condition_row p k)) (λ k. get_or c k false) 0 (λ i. ap (λ (j : ℕ). get_or c j false) (zero-add i)))
