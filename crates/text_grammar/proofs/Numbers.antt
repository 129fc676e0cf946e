-- Decimal digits: how they grow, that the reader of numbers takes exactly them, and how many they are.
-- Assumes nothing.
use Rattle.std.specs.Prelude.{if◌then◌else◌}
use mathlib.Core.Path.{◌≡◌, refl, ap, sym, ◌∙◌}
use mathlib.Core.Bool.{Bool, true, false, ◌&&◌}
use mathlib.Core.Logic.{◌⊎◌, inl, inr}
use mathlib.Core.List.{List, [], ◌∷◌, ◌++◌, append_assoc}
use Prim.Native.Nat.{ℕ, zero, suc, ◌+◌, ◌-◌, ◌*◌, ◌/◌, ◌%◌, ◌^◌, ◌≤◌, ◌<◌}
use native.Mathlib.Nat.{pow-suc}
use native.Mathlib.Omega.{arith}
use borrow.Author.Tests.{ltb-true, ltb-false, leb-true, eqb-true, lt-ltb, le-ltb, le-leb, eq-eqb, ne_eqb}
use lib.Dec.{eqb, leb, ltb}
use lib.ListN.{length, length-append}
use Rattle.lists.proofs.Tests.{two, both, join, strong}
use Rattle.model.specs.Text.{digits, decimal}
use Rattle.text_grammar.proofs.Parsed.{not_got, got_same}
use Rattle.text_grammar.specs.Parse.{none, got, digit, goes_on, digits_to, number_to}

-- the digits of a number below ten, and of another; the bound does not matter
digits_small : (f n : ℕ) → n < 10 → digits f n ≡ (48 + n) ∷ []
unfolding digits
digits_small zero n l = refl
digits_small (suc f) n l = rw (lt-ltb n 10 l, digits)

digits_large : (f n : ℕ) → 10 ≤ n → digits (suc f) n ≡ digits f (n / 10) ++ ((48 + n % 10) ∷ [])
unfolding digits
digits_large f n l = rw (le-ltb n 10 l, digits)

digits_same : (f g n : ℕ) → n ≤ f → n ≤ g → digits f n ≡ digits g n
digits_same zero g n k l = digits_small zero n (omega arith) ∙ sym (digits_small g n (omega arith))
digits_same (suc f) zero n k l = digits_small (suc f) n (omega arith) ∙ sym (digits_small zero n (omega arith))
digits_same (suc f) (suc g) n k l = at (two (ltb n 10)) (digits_same f g (n / 10))
  where
    at : (ltb n 10 ≡ true) ⊎ (ltb n 10 ≡ false) → (n / 10 ≤ f → n / 10 ≤ g → digits f (n / 10) ≡ digits g (n / 10)) → digits (suc f) n ≡ digits (suc g) n
    at (inl e) r = let m = ltb-true n 10 e in digits_small (suc f) n m ∙ sym (digits_small (suc g) n m)
    at (inr e) r =
        let m = ltb-false n 10 e in
        digits_large f n m ∙ ap (λ l. l ++ ((48 + n % 10) ∷ [])) (r (omega arith) (omega arith)) ∙ sym (digits_large g n m)

pub decimal_small : (n : ℕ) → n < 10 → decimal n ≡ (48 + n) ∷ []
unfolding decimal
decimal_small n l = digits_small n n l

pub decimal_large : (n : ℕ) → 10 ≤ n → decimal n ≡ decimal (n / 10) ++ ((48 + n % 10) ∷ [])
unfolding decimal
decimal_large zero l = absurd (omega arith)
decimal_large (suc f) l =
    digits_large f (suc f) l
    ∙ ap (λ s. s ++ ((48 + suc f % 10) ∷ [])) (digits_same f (suc f / 10) (suc f / 10) (omega arith) (omega arith))

decimal_more : (n d : ℕ) → 0 < n → d < 10 → decimal n ++ ((48 + d) ∷ []) ≡ decimal (n * 10 + d)
decimal_more n d l h =
    let q : (n * 10 + d) / 10 ≡ n = omega arith in
    let m : (n * 10 + d) % 10 ≡ d = omega arith in
    sym (rw (q, m) at (decimal_large (n * 10 + d) (omega arith)))

pub decimal_length : (k n : ℕ) → n < 10 ^ suc k → length (decimal n) ≤ suc k
decimal_length zero n l = rw (decimal_small n l) (omega arith)
decimal_length (suc k) n l = at (two (ltb n 10)) (decimal_length k (n / 10))
  where
    at : (ltb n 10 ≡ true) ⊎ (ltb n 10 ≡ false) → (n / 10 < 10 ^ suc k → length (decimal (n / 10)) ≤ suc k) → length (decimal n) ≤ suc (suc k)
    at (inl e) r = rw (decimal_small n (ltb-true n 10 e)) (omega arith)
    at (inr e) r =
        let h : length (decimal (n / 10)) ≤ suc k = r (omega (arith, pow-suc 10 (suc k))) in
        rw (decimal_large n (ltb-false n 10 e), length-append (decimal (n / 10)) ((48 + n % 10) ∷ [])) (omega arith)

-- what a digit is, and what one more says of the number before it
is_digit : (d : ℕ) → d < 10 → digit (48 + d) ≡ true
unfolding digit
is_digit d l = join (leb 48 (48 + d)) (leb (48 + d) 57) (le-leb 48 (48 + d) (omega arith)) (le-leb (48 + d) 57 (omega arith))

pub digit_is : (b : ℕ) → digit b ≡ true → (48 + (b - 48) ≡ b) × (b - 48 < 10)
unfolding digit
digit_is b h =
    let k = both (leb 48 b) (leb b 57) h in
    let l = leb-true 48 b k.0 in
    let m = leb-true b 57 k.1 in
    (omega arith, omega arith)

may_go_on : (n d : ℕ) → 0 < n → n < 100000000 → d < 10 → goes_on n (48 + d) ≡ true
unfolding goes_on
may_go_on n d l m h = rw (is_digit d h, lt-ltb 0 n l) (le-leb n 99999999 (omega arith))

pub went_on : (n b : ℕ) → goes_on n b ≡ true → (48 + (b - 48) ≡ b) × (b - 48 < 10) × (0 < n) × (n < 100000000)
unfolding goes_on
went_on n b h =
    let k = both (digit b) (ltb 0 n && leb n 99999999) h in
    let m = both (ltb 0 n) (leb n 99999999) k.1 in
    let d = digit_is b k.0 in
    let u = leb-true n 99999999 m.1 in
    (d.0, d.1, ltb-true 0 n m.0, omega arith)

-- a number and the byte behind it
abbrev pub ended : ℕ → ℕ → List ℕ
ended end n = decimal n ++ (end ∷ [])

abbrev pub bracketed : ℕ → List ℕ
bracketed n = ended 41 n

-- every printed number is read, if the byte behind it is no digit
module _ (end : ℕ) (low : end < 48) where
  digits_step : (n d : ℕ) (s : List ℕ) → 0 < n → n < 100000000 → d < 10 → digits_to end n ((48 + d) ∷ s) ≡ digits_to end (n * 10 + d) s
  unfolding digits_to
  digits_step n d s l m h =
      let e : (48 + d) - 48 ≡ d = omega arith in
      rw (ne_eqb (48 + d) end (λ z. omega arith), may_go_on n d l m h, e)

  number_digits : (n : ℕ) → n < 1000000000 → (s : List ℕ) → number_to end (decimal n ++ s) ≡ digits_to end n s
  unfolding number_to
  number_digits = strong (λ n. n < 1000000000 → (s : List ℕ) → number_to end (decimal n ++ s) ≡ digits_to end n s) (λ n r b s. at n r b s (two (ltb n 10)))
    where
      at : (n : ℕ) → ((j : ℕ) → j < n → j < 1000000000 → (s : List ℕ) → number_to end (decimal j ++ s) ≡ digits_to end j s) → n < 1000000000
          → (s : List ℕ) → (ltb n 10 ≡ true) ⊎ (ltb n 10 ≡ false) → number_to end (decimal n ++ s) ≡ digits_to end n s
      at n r b s (inl e) =
          let l = ltb-true n 10 e in
          let z : (48 + n) - 48 ≡ n = omega arith in
          rw (decimal_small n l, is_digit n l, z)
      at n r b s (inr e) =
          let l = ltb-false n 10 e in
          let z : n / 10 * 10 + n % 10 ≡ n = omega arith in
          rw (
            decimal_large n l,
            append_assoc (decimal (n / 10)) ((48 + n % 10) ∷ []) s,
            r (n / 10) (omega arith) (omega arith) ((48 + n % 10) ∷ s),
            digits_step (n / 10) (n % 10) s (omega arith) (omega arith) (omega arith),
            z,
          )

  pub number_complete : (n : ℕ) (s : List ℕ) → n < 1000000000 → number_to end (ended end n ++ s) ≡ got n s
  unfolding digits_to
  number_complete n s l = rw (append_assoc (decimal n) (end ∷ []) s) (number_digits n l (end ∷ s) ∙ rw (eq-eqb end end refl))

-- what is read is a printed number
module _ (end : ℕ) where
  digits_sound : (s : List ℕ) (n m : ℕ) (r : List ℕ) → n < 1000000000 → digits_to end n s ≡ got m r → (decimal n ++ s ≡ decimal m ++ (end ∷ r)) × (m < 1000000000)
  unfolding digits_to
  digits_sound [] n m r l h = not_got h
  digits_sound (b ∷ s) n m r l h = at (eqb b end) (goes_on n b) refl refl h (digits_sound s (n * 10 + (b - 48)) m r)
    where
      at : (x y : Bool) → eqb b end ≡ x → goes_on n b ≡ y → (if x then got n s else if y then digits_to end (n * 10 + (b - 48)) s else none) ≡ got m r
          → (n * 10 + (b - 48) < 1000000000 → digits_to end (n * 10 + (b - 48)) s ≡ got m r → (decimal (n * 10 + (b - 48)) ++ s ≡ decimal m ++ (end ∷ r)) × (m < 1000000000))
          → (decimal n ++ (b ∷ s) ≡ decimal m ++ (end ∷ r)) × (m < 1000000000)
      at true y e g k ih =
          let z = got_same k in
          let c = eqb-true b end e in
          (rw (z.0, z.1, c), omega arith)
      at false true e g k ih =
          let d = went_on n b g in
          let q = ih (omega arith) k in
          let c : decimal n ++ (b ∷ []) ≡ decimal (n * 10 + (b - 48)) = rw d.0 at (decimal_more n (b - 48) d.2 d.1) in
          (sym (append_assoc (decimal n) (b ∷ []) s) ∙ ap (λ u. u ++ s) c ∙ q.0, q.1)
      at false false e g k ih = not_got k

  pub number_sound : (s : List ℕ) (m : ℕ) (r : List ℕ) → number_to end s ≡ got m r → (s ≡ ended end m ++ r) × (m < 1000000000)
  unfolding number_to
  number_sound [] m r h = not_got h
  number_sound (b ∷ s) m r h = at (digit b) refl h
    where
      at : (x : Bool) → digit b ≡ x → (if x then digits_to end (b - 48) s else none) ≡ got m r → (b ∷ s ≡ ended end m ++ r) × (m < 1000000000)
      at true e k =
          let d = digit_is b e in
          let q = digits_sound s (b - 48) m r (omega arith) k in
          let c : decimal (b - 48) ≡ b ∷ [] = rw d.0 at (decimal_small (b - 48) d.1) in
          (ap (λ u. u ++ s) (sym c) ∙ q.0 ∙ sym (append_assoc (decimal m) (end ∷ []) r), q.1)
      at false e k = not_got k
