-- The decimal digits of a number two and four at a time.
-- Assumes nothing.
use mathlib.Core.Path.{◌≡◌, ◌∙◌}
use mathlib.Core.List.{[], ◌∷◌, ◌++◌, append_assoc}
use Prim.Native.Nat.{ℕ, ◌+◌, ◌/◌, ◌%◌, ◌≤◌, ◌<◌}
use native.Mathlib.Omega.{arith}
use Rattle.model.specs.Text.{decimal}
use Rattle.text_grammar.proofs.Numbers.{decimal_small, decimal_large}
use Rattle.listing_bytes.specs.Digits.{two_digits, four_digits}

pub decimal_two : (n : ℕ) → 10 ≤ n → n < 100 → decimal n ≡ two_digits n
decimal_two n l h = decimal_large n l ∙ rw (decimal_small (n / 10) (omega arith))

pub decimal_pair : (n : ℕ) → 100 ≤ n → decimal n ≡ decimal (n / 100) ++ two_digits (n % 100)
decimal_pair n l =
    let a : n / 10 / 10 ≡ n / 100 = omega arith in
    let b : n / 10 % 10 ≡ n % 100 / 10 = omega arith in
    let d : n % 10 ≡ n % 100 % 10 = omega arith in
    decimal_large n (omega arith)
    ∙ rw (decimal_large (n / 10) (omega arith), a, b, ← d) (append_assoc (decimal (n / 100)) ((48 + n % 100 / 10) ∷ []) ((48 + n % 10) ∷ []))

pub decimal_three : (n : ℕ) → 100 ≤ n → n < 1000 → decimal n ≡ ((48 + n / 100) ∷ []) ++ two_digits (n % 100)
decimal_three n l h = decimal_pair n l ∙ rw (decimal_small (n / 100) (omega arith))

pub decimal_four : (n : ℕ) → 1000 ≤ n → n < 10000 → decimal n ≡ four_digits n
decimal_four n l h = decimal_pair n (omega arith) ∙ rw (decimal_two (n / 100) (omega arith) (omega arith))

pub decimal_fours : (n : ℕ) → 10000 ≤ n → decimal n ≡ decimal (n / 10000) ++ four_digits (n % 10000)
decimal_fours n l =
    let a : n / 100 / 100 ≡ n / 10000 = omega arith in
    let b : n / 100 % 100 ≡ n % 10000 / 100 = omega arith in
    let d : n % 100 ≡ n % 10000 % 100 = omega arith in
    decimal_pair n (omega arith)
    ∙ rw (decimal_pair (n / 100) (omega arith), a, b, d) (append_assoc (decimal (n / 10000)) (two_digits (n % 10000 / 100)) (two_digits (n % 10000 % 100)))
