-- An entry's column is met just where what is known and heard is all that is known, and what is known has the heard
-- values: two tests on words are one on each of their bits.
-- Assumes nothing.
use mathlib.Core.Path.{◌≡◌, refl, sym, ap, ap₂, ◌∙◌}
use mathlib.Core.Bool.{Bool, true, false, ◌&&◌}
use Prim.Native.Nat.{ℕ, zero, suc, ◌+◌, ◌*◌, ◌/◌, ◌%◌, ◌^◌, ◌<◌, min}
use native.Mathlib.Nat.{pow-suc, zero-min, min-zero}
use native.Mathlib.Omega.{arith}
use lib.Bits.{bit_and, and_step, and_zero_r}
use lib.Dec.{eqb}
use borrow.Author.Tests.{eqb-true, eq-eqb}
use Rattle.lists.proofs.Tests.{both, join, same_test}
use Rattle.model.specs.Table.{bit_met, bits_met}

-- one bit
one_bit : (k v h w : ℕ) → k < 2 → v < 2 → h < 2 → w < 2 → bit_met k v h w ≡ (eqb (min k h) k && eqb (min v k) (min w k))
one_bit zero v h w lk lv lh lw = rw (zero-min h, min-zero v, min-zero w)
one_bit (suc zero) v h w lk lv lh lw =
    let a : min 1 h ≡ h = omega arith in
    let b : min v 1 ≡ v = omega arith in
    let c : min w 1 ≡ w = omega arith in
    rw (a, b, c)
one_bit (suc (suc k)) v h w lk lv lh lw = absurd (omega arith)

-- two numbers are equal where their lowest bits and the rest are
eqb_bits : (x y a b : ℕ) → a < 2 → b < 2 → eqb (x * 2 + a) (y * 2 + b) ≡ (eqb a b && eqb x y)
eqb_bits x y a b la lb =
    same_test (eqb (x * 2 + a) (y * 2 + b)) (eqb a b && eqb x y)
    (λ e. let q : x * 2 + a ≡ y * 2 + b = eqb-true (x * 2 + a) (y * 2 + b) e in join (eqb a b) (eqb x y) (eq-eqb a b (omega arith)) (eq-eqb x y (omega arith)))
    (λ e. let r = both (eqb a b) (eqb x y) e in let p = eqb-true a b r.0 in let q = eqb-true x y r.1 in eq-eqb (x * 2 + a) (y * 2 + b) (omega arith))

cross : (a b x y : Bool) → ((a && b) && (x && y)) ≡ ((a && x) && (b && y))
cross true true x y = refl
cross true false true y = refl
cross true false false y = refl
cross false b x y = refl

-- the two tests on words
unfoldable pub words_met : ℕ → ℕ → ℕ → ℕ → Bool
words_met k v h w = eqb (bit_and k h) k && eqb (bit_and v k) (bit_and w k)

lowest : (x : ℕ) → x % 2 < 2
lowest x = omega arith

min_low : (x y : ℕ) → min (x % 2) (y % 2) < 2
min_low x y = omega (arith, lowest x, lowest y)

words_step : (k v h w : ℕ) → words_met k v h w ≡ (bit_met (k % 2) (v % 2) (h % 2) (w % 2) && words_met (k / 2) (v / 2) (h / 2) (w / 2))
unfolding words_met
words_step k v h w =
    let halves : k ≡ k / 2 * 2 + k % 2 = omega arith in
    (λ j. eqb (and_step k h j) (halves j) && eqb (and_step v k j) (and_step w k j))
    ∙ ap₂ ◌&&◌
    (eqb_bits (bit_and (k / 2) (h / 2)) (k / 2) (min (k % 2) (h % 2)) (k % 2) (min_low k h) (lowest k))
    (eqb_bits (bit_and (v / 2) (k / 2)) (bit_and (w / 2) (k / 2)) (min (v % 2) (k % 2)) (min (w % 2) (k % 2)) (min_low v k) (min_low w k))
    ∙ cross (eqb (min (k % 2) (h % 2)) (k % 2)) (eqb (bit_and (k / 2) (h / 2)) (k / 2)) (eqb (min (v % 2) (k % 2)) (min (w % 2) (k % 2)))
    (eqb (bit_and (v / 2) (k / 2)) (bit_and (w / 2) (k / 2)))
    ∙ ap (λ (b : Bool). b && words_met (k / 2) (v / 2) (h / 2) (w / 2))
    (sym (one_bit (k % 2) (v % 2) (h % 2) (w % 2) (lowest k) (lowest v) (lowest h) (lowest w)))

-- known bits are all among the n lowest
met_words : (n k v h w : ℕ) → k < 2 ^ n → bits_met n k v h w ≡ words_met k v h w
unfolding bits_met words_met
met_words zero k v h w l =
    let z : k ≡ 0 = omega arith in
    sym ((λ j. eqb (bit_and (z j) h) (z j) && eqb (bit_and v (z j)) (bit_and w (z j))) ∙ rw (and_zero_r v, and_zero_r w))
met_words (suc n) k v h w l =
    ap (λ (b : Bool). bit_met (k % 2) (v % 2) (h % 2) (w % 2) && b) (met_words n (k / 2) (v / 2) (h / 2) (w / 2) (omega (arith, pow-suc 2 n)))
    ∙ sym (words_step k v h w)

pub met_32 : (k v h w : ℕ) → k < 2 ^ 32 → bits_met 32 k v h w ≡ (eqb (bit_and k h) k && eqb (bit_and v k) (bit_and w k))
unfolding words_met
met_32 k v h w l = met_words 32 k v h w l
