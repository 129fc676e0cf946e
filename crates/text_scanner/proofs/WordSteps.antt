-- What the grammar reads of a word, and in one turn of the loop over digits.
-- Assumes nothing.
use Rattle.std.specs.List.{starts_with}
use Rattle.std.specs.Char.{is_ascii_digit}
use Rattle.std.proofs.lemmas.Bool.Decides.{nat_tests}
use Prim.Native.Nat.{ℕ, ◌+◌, ◌-◌, ◌*◌, ◌≤◌, ◌<◌}
use mathlib.Core.Path.{◌≡◌, refl}
use mathlib.Core.Bool.{true, false}
use mathlib.Core.List.{List, [], ◌∷◌}
use native.Mathlib.Omega.{arith}
use native.Mathlib.Numerals.{add-one}
use borrow.Author.Tests.{eq-eqb, ne_eqb}
use lib.Dec.{eqb}
use lib.ListN.{length, drop, get_or, drop_of_length-le}
use lib.Seq.{drop-cons}
use Rattle.text_grammar.specs.Parse.{none, got, word_at, digit, goes_on, digits_to, number_to}

-- a word in front of a text, and a word that is not
pub word_in_front : (w s : List ℕ) → starts_with eqb s w ≡ true → word_at w s ≡ got tt (drop (length w) s)
unfolding word_at
word_in_front [] s h = refl
word_in_front (c ∷ w) [] h = cc
word_in_front (c ∷ w) (b ∷ s) h = grind (arith, nat_tests, word_in_front w s)

pub word_not_in_front : (w s : List ℕ) → starts_with eqb s w ≡ false → word_at w s ≡ none
unfolding word_at
word_not_in_front [] s h = cc
word_not_in_front (c ∷ w) [] h = refl
word_not_in_front (c ∷ w) (b ∷ s) h = grind (arith, nat_tests, word_not_in_front w s)

-- the end of the text; its byte j as the one behind the number, as a further digit, and as none
pub digits_end : (end : ℕ) (t : List ℕ) (n j : ℕ) → length t ≤ j → digits_to end n (drop j t) ≡ none
unfolding digits_to
digits_end end t n j h = rw (drop_of_length-le t {i = j} h)

module _ (end : ℕ) (t : List ℕ) (n j : ℕ) (h : j < length t) where
  pub digits_done : get_or t j 0 ≡ end → digits_to end n (drop j t) ≡ got n (drop (j + 1) t)
  unfolding digits_to
  digits_done e = rw (add-one j, drop-cons t j 0 h, e, eq-eqb end end refl)

  pub digits_next : (get_or t j 0 ≡ end → ⊥) → goes_on n (get_or t j 0) ≡ true → digits_to end n (drop j t) ≡ digits_to end (n * 10 + (get_or t j 0 - 48)) (drop (j + 1) t)
  unfolding digits_to
  digits_next e g = rw (add-one j, drop-cons t j 0 h, ne_eqb (get_or t j 0) end e, g)

  pub digits_off : (get_or t j 0 ≡ end → ⊥) → goes_on n (get_or t j 0) ≡ false → digits_to end n (drop j t) ≡ none
  unfolding digits_to
  digits_off e g = rw (drop-cons t j 0 h, ne_eqb (get_or t j 0) end e, g)

-- the first digit of a number
pub number_end : (end : ℕ) (t : List ℕ) (j : ℕ) → length t ≤ j → number_to end (drop j t) ≡ none
unfolding number_to
number_end end t j h = rw (drop_of_length-le t {i = j} h)

module _ (end : ℕ) (t : List ℕ) (j b : ℕ) (h : j < length t) (e : b ≡ get_or t j 0) where
  pub number_next : is_ascii_digit b ≡ true → number_to end (drop j t) ≡ digits_to end (b - 48) (drop (j + 1) t)
  unfolding number_to digit
  number_next g = rw (add-one j, drop-cons t j 0 h, ← e, g)

  pub number_off : is_ascii_digit b ≡ false → number_to end (drop j t) ≡ none
  unfolding number_to digit
  number_off g = rw (drop-cons t j 0 h, ← e, g)
