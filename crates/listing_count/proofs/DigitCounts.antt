-- How many decimal digits a number has.
-- Assumes nothing.
use mathlib.Core.Path.{◌≡◌, ap, ◌∙◌}
use mathlib.Core.List.{[], ◌∷◌}
use Prim.Native.Nat.{ℕ, zero, suc, ◌+◌, ◌/◌, ◌%◌, ◌^◌, ◌≤◌, ◌<◌}
use native.Mathlib.Nat.{pow-suc}
use native.Mathlib.Omega.{arith}
use lib.ListN.{length, length-append}
use Rattle.model.specs.Text.{decimal}
use Rattle.text_grammar.proofs.Numbers.{decimal_small, decimal_large}

pub one_digit : (n : ℕ) → n < 10 → length (decimal n) ≡ 1
one_digit n h = rw (decimal_small n h)

longer : (n : ℕ) → 10 ≤ n → length (decimal n) ≡ suc (length (decimal (n / 10)))
longer n h = rw (decimal_large n h, length-append (decimal (n / 10)) ((48 + n % 10) ∷ [])) (omega arith)

pub more_digits : (k n : ℕ) → 10 ^ suc k ≤ n → n < 10 ^ suc (suc k) → length (decimal n) ≡ suc (suc k)
more_digits zero n l h = longer n l ∙ ap suc (one_digit (n / 10) (omega arith))
more_digits (suc k) n l h =
    longer n (omega (arith, pow-suc 10 (suc k), pow-suc 10 k))
    ∙ ap suc (more_digits k (n / 10) (omega (arith, pow-suc 10 (suc k))) (omega (arith, pow-suc 10 (suc (suc k)))))
