-- The combination that another takes over from: it lacks one condition of the other's, is earlier, and differs from it
-- in that condition alone.
-- Assumes nothing.
use Rattle.std.specs.Prelude.{if◌then◌else◌}
use mathlib.Core.Path.{◌≡◌, refl, sym, ap, ◌∙◌, subst, subst₂}
use mathlib.Core.Logic.{◌⊎◌, inl, inr}
use mathlib.Core.Bool.{Bool, true, false, false≢true, not, ◌||◌, beq}
use mathlib.Core.List.{List, []}
use Prim.Native.Nat.{ℕ, zero, suc, ◌+◌, ◌-◌, ◌*◌, ◌/◌, ◌%◌, ◌^◌, ◌≤◌, ◌<◌}
use native.Mathlib.Nat.{pow-suc, pow-le-pow_right, div-one, div-div-eq-div-mul, div-eq_of_lt, mul_assoc, mul_comm, zero-mul}
use native.Mathlib.Numerals.{add-one}
use native.Mathlib.Omega.{arith}
use lib.Dec.{eqb, leb}
use lib.ListN.{length, get_or, get_or-eq_default}
use lib.Pow.{pow_pos}
use borrow.Author.Tests.{eq-eqb, ne_eqb, eqb-true, eqb-false, leb-true, leb-false}
use Rattle.limits.specs.Limits.{ROWS}
use Rattle.lists.specs.Lists.{all, below}
use Rattle.lists.proofs.Tests.{two}
use Rattle.lists.proofs.Members.{all_in, in_below, in_getD}
use Rattle.model.specs.Plan.{Lines}
use Rattle.model.specs.Activity.{combinations}
use Rattle.model.specs.Listing.{bit}
use Rattle.laws.proofs.Combinations.{combination_length}
use Rattle.bitset.proofs.Numbered.{combinations_count, combination_bit}
use Rattle.table_entries.specs.Logs.{numbered}
use Rattle.planner_prefix.specs.declared.prefix.Source.{Source}
use Rattle.planner_prefix.specs.Prefix.{no_value, arrival, later_by, source_among}

-- a clock of arrival is one or more
pub arrival_some : (x : ℕ) → 0 < arrival x
unfolding arrival
arrival_some x = at (eqb x 0) refl
  where
    at : (b : Bool) → eqb x 0 ≡ b → 0 < (if b then no_value else x)
    at true e = omega arith
    at false e = let q : x ≡ 0 → ⊥ = eqb-false x 0 e in omega (arith, q)

pub arrival_never : (x : ℕ) → x ≡ 0 → arrival x ≡ no_value
unfolding arrival
arrival_never x q = rw q

pub arrival_at : (x t : ℕ) → x ≡ suc t → arrival x ≡ suc t
unfolding arrival
arrival_at x t q = rw (ne_eqb x 0 (λ z. absurd (omega (arith, z, q)))) q

-- Combination c takes over from one that lacks one of its conditions, up to the clock at which that condition's value
-- arrives there.
pub record Sourced (comes : List ℕ) (conditionrow conditions c : ℕ) (s : Source) : Type 0 where
  pub condition_in : s.condition < conditions
  pub value_set : bit c s.condition ≡ true
  pub without : s.from ≡ c - 2 ^ s.condition
  pub arrives : s.clock ≡ arrival (get_or comes (s.from * ROWS + conditionrow + s.condition) 0)

-- The best source of the conditions below k: none while no value is set, or one of them.
data Best (comes : List ℕ) (conditionrow c k rest power : ℕ) (best : Source) : Type 0 where
  none : best.clock ≡ 0 → c ≡ rest * power → Best comes conditionrow c k rest power best
  found : Sourced comes conditionrow k c best → Best comes conditionrow c k rest power best

-- the rest of the bits, and the value of a bit that is set
pub halved : (c k rest : ℕ) → rest ≡ c / 2 ^ k → rest / 2 ≡ c / 2 ^ (k + 1)
halved c k rest q =
    ap (λ (x : ℕ). x / 2) q ∙ div-div-eq-div-mul c (2 ^ k) 2 ∙ ap (λ (x : ℕ). c / x) (sym (pow-suc 2 k)) ∙ ap (λ (x : ℕ). c / 2 ^ x) (sym (add-one k))

pub doubled : (k power : ℕ) → power ≡ 2 ^ k → power * 2 ≡ 2 ^ (k + 1)
doubled k power q = ap (λ (x : ℕ). x * 2) q ∙ sym (pow-suc 2 k) ∙ ap (λ (x : ℕ). 2 ^ x) (sym (add-one k))

pub power_within : (c k rest power : ℕ) → power ≡ 2 ^ k → rest ≡ c / 2 ^ k → 0 < rest % 2 → power ≤ c
power_within c k rest power p q l = at (two (leb power c))
  where
    at : (leb power c ≡ true) ⊎ (leb power c ≡ false) → power ≤ c
    at (inl e) = leb-true power c e
    at (inr e) =
        let s : c < 2 ^ k = omega (arith, leb-false power c e, p) in
        let z : rest ≡ 0 = q ∙ div-eq_of_lt s in
        absurd (omega (arith, z, l))

module _ (comes : List ℕ) (conditionrow c : ℕ) where
  wider : (k : ℕ) (s : Source) → Sourced comes conditionrow k c s → Sourced comes conditionrow (k + 1) c s
  wider k s x = record { condition_in = omega (arith, x.condition_in); value_set = x.value_set; without = x.without; arrives = x.arrives }

  best_next : (k rest power : ℕ) (best : Source) → power ≡ 2 ^ k → rest ≡ c / 2 ^ k → Best comes conditionrow c k rest power best →
      Best comes conditionrow c (k + 1) (rest / 2) (power * 2) (later_by comes conditionrow c k power (rest % 2) best)
  unfolding later_by bit
  best_next k rest power best p q s = at (two (eqb (rest % 2) 0)) (two (leb clock best.clock))
    where
      clock : ℕ
      clock = arrival (get_or comes ((c - power) * 198 + conditionrow + k) 0)

      mine : Source
      mine = record { from = c - power; condition = k; clock = clock }

      kept : Best comes conditionrow c k rest power best → rest % 2 ≡ 0 → Best comes conditionrow c (k + 1) (rest / 2) (power * 2) best
      kept (none z w) e =
          none z
          (let h : rest ≡ rest / 2 * 2 = omega (arith, e) in
          w ∙ ap (λ (x : ℕ). x * power) h ∙ mul_assoc (rest / 2) 2 power ∙ ap (λ (x : ℕ). rest / 2 * x) (mul_comm 2 power))
      kept (found x) e = found (wider k best x)

      value : (rest % 2 ≡ 0 → ⊥) → bit c k ≡ true
      value e = eq-eqb (c / 2 ^ k % 2) 1 (ap (λ (x : ℕ). x % 2) (sym q) ∙ omega (arith, e))

      own : (rest % 2 ≡ 0 → ⊥) → Sourced comes conditionrow (k + 1) c mine
      own e = record { condition_in = omega arith; value_set = value e; without = ap (λ (x : ℕ). c - x) p; arrives = refl }

      stays : Best comes conditionrow c k rest power best → clock ≤ best.clock → Best comes conditionrow c (k + 1) (rest / 2) (power * 2) best
      stays (none z w) l = absurd (omega (arith, z, l, arrival_some (get_or comes ((c - power) * 198 + conditionrow + k) 0)))
      stays (found x) l = found (wider k best x)

      at : (eqb (rest % 2) 0 ≡ true) ⊎ (eqb (rest % 2) 0 ≡ false) → (leb clock best.clock ≡ true) ⊎ (leb clock best.clock ≡ false) →
          Best comes conditionrow c (k + 1) (rest / 2) (power * 2) (if eqb (rest % 2) 0 then best else if leb clock best.clock then best else mine)
      at (inl e) l = rw e (kept s (eqb-true (rest % 2) 0 e))
      at (inr e) (inl l) = rw (e, l) (stays s (leb-true clock best.clock l))
      at (inr e) (inr l) = rw (e, l) (found (own (eqb-false (rest % 2) 0 e)))

  best_among : (k : ℕ) → Best comes conditionrow c k (c / 2 ^ k) (2 ^ k) (source_among comes conditionrow c k)
  unfolding source_among
  best_among zero = none refl (omega (arith, div-one c))
  best_among (suc k) =
      let s = source_among comes conditionrow c (suc k) in
      subst (λ (n : ℕ). Best comes conditionrow c n (c / 2 ^ n) (2 ^ n) s) (add-one k)
      (subst₂ (λ (rest power : ℕ). Best comes conditionrow c (k + 1) rest power s) (halved c k (c / 2 ^ k) refl) (doubled k (2 ^ k) refl)
      (best_next k (c / 2 ^ k) (2 ^ k) (source_among comes conditionrow c k) refl refl (best_among k)))

  -- every combination but the first has a source
  pub sourced : (conditions : ℕ) → 0 < c → c < 2 ^ conditions → Sourced comes conditionrow conditions c (source_among comes conditionrow c conditions)
  sourced conditions some l = by (best_among conditions)
    where
      by : Best comes conditionrow c conditions (c / 2 ^ conditions) (2 ^ conditions) (source_among comes conditionrow c conditions) →
          Sourced comes conditionrow conditions c (source_among comes conditionrow c conditions)
      by (none z w) = absurd (let v : c ≡ 0 = w ∙ ap (λ (x : ℕ). x * 2 ^ conditions) (div-eq_of_lt l) ∙ zero-mul (2 ^ conditions) in omega arith)
      by (found x) = x

-- Two numbers below 64 of which one has a bit more have the same bits elsewhere, and the one is less: computed at each.
same_elsewhere : ℕ → ℕ → ℕ → Bool
same_elsewhere c j k = not (bit c j) || eqb k j || beq (bit c k) (bit (c - 2 ^ j) k)

tested : ℕ → Bool
tested c = all (λ j. all (same_elsewhere c j) (below 6)) (below 6)

falls : ℕ → Bool
falls c = all (λ j. not (bit c j) || leb (2 ^ j) c) (below 6)

tested_all : all tested (below 64) ≡ true
unfolding tested same_elsewhere bit
tested_all = refl

falls_all : all falls (below 64) ≡ true
unfolding falls bit
falls_all = refl

alike : (a b : Bool) → beq a b ≡ true → a ≡ b
alike true true e = refl
alike true false e = absurd (false≢true e)
alike false true e = absurd (false≢true e)
alike false false e = refl

pub bit_without : (c j k : ℕ) → c < 64 → j < 6 → k < 6 → bit c j ≡ true → (k ≡ j → ⊥) → bit c k ≡ bit (c - 2 ^ j) k
unfolding tested same_elsewhere
bit_without c j k l m n b d =
    at (bit c j) (eqb k j) b refl (all_in (same_elsewhere c j) (all_in (λ j. all (same_elsewhere c j) (below 6)) (all_in tested tested_all (in_below 64 c l)) (in_below 6 j m)) (in_below 6 k n))
  where
    at : (x y : Bool) → x ≡ true → eqb k j ≡ y → (not x || y || beq (bit c k) (bit (c - 2 ^ j) k)) ≡ true → bit c k ≡ bit (c - 2 ^ j) k
    at true true e f h = absurd (d (eqb-true k j f))
    at true false e f h = alike _ _ h
    at false y e f h = absurd (false≢true e)

pub power_in : (c j : ℕ) → c < 64 → j < 6 → bit c j ≡ true → 2 ^ j ≤ c
unfolding falls
power_in c j l m b = at (bit c j) b (all_in (λ j. not (bit c j) || leb (2 ^ j) c) (all_in falls falls_all (in_below 64 c l)) (in_below 6 j m))
  where
    at : (x : Bool) → x ≡ true → (not x || leb (2 ^ j) c) ≡ true → 2 ^ j ≤ c
    at true e h = leb-true _ _ h
    at false e h = absurd (false≢true e)

pub width : (p : Lines) (c : ℕ) → c < 2 ^ length p.conditions → length (numbered p c) ≡ length p.conditions
width p c l = combination_length p (numbered p c) (in_getD (combinations p) c [] (omega (arith, combinations_count (length p.conditions))))

-- The source of a combination: earlier, and with the same values but for that of one condition.
module _ (p : Lines) (few : length p.conditions ≤ 6) (c : ℕ) (l : c < 2 ^ length p.conditions) (comes : List ℕ) (conditionrow : ℕ) (s : Source) (x : Sourced comes conditionrow (length p.conditions) c s) where
  small : c < 64
  small = omega (arith, pow-le-pow_right {n = 2} (omega arith) {i = length p.conditions} {j = 6} few)

  pub from_less : s.from < c
  from_less =
      let j = x.condition_in in
      omega (arith, x.without, power_in c s.condition small (omega arith) x.value_set, pow_pos s.condition)

  pub from_within : s.from < 2 ^ length p.conditions
  from_within = omega (arith, from_less)

  pub elsewhere : (k : ℕ) → (k ≡ s.condition → ⊥) → get_or (numbered p c) k false ≡ get_or (numbered p s.from) k false
  elsewhere k d = at (two (leb (length p.conditions) k))
    where
      at : (leb (length p.conditions) k ≡ true) ⊎ (leb (length p.conditions) k ≡ false) → get_or (numbered p c) k false ≡ get_or (numbered p s.from) k false
      at (inl e) =
          let m = leb-true (length p.conditions) k e in
          get_or-eq_default (numbered p c) false (omega (arith, width p c l)) ∙ sym (get_or-eq_default (numbered p s.from) false (omega (arith, width p s.from from_within)))
      at (inr e) =
          let m : k < length p.conditions = leb-false (length p.conditions) k e in
          let j = x.condition_in in
          combination_bit (length p.conditions) c k l m
          ∙ bit_without c s.condition k small (omega arith) (omega arith) x.value_set d
          ∙ ap (λ (n : ℕ). bit n k) (sym x.without)
          ∙ sym (combination_bit (length p.conditions) s.from k from_within m)
