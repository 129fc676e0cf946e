-- The words that bytes hold: how many there are, the one at a place, that it is a number of 32 bits, and those from a
-- place on.
-- Assumes nothing.
use mathlib.Core.Path.{◌≡◌, refl, sym, ap, ◌∙◌}
use mathlib.Core.List.{List, [], ◌∷◌}
use Prim.Native.Nat.{ℕ, zero, suc, ◌+◌, ◌*◌, ◌/◌, ◌<◌, ◌^◌}
use native.Mathlib.Omega.{arith}
use lib.ListN.{length, get_or, drop}
use Rattle.model.specs.Firmware.{words_of}

-- four bytes a word, stray last bytes left out
pub words_count : (bytes : List ℕ) → length (words_of bytes) ≡ length bytes / 4
words_count [] = refl
words_count (a ∷ []) = refl
words_count (a ∷ b ∷ []) = refl
words_count (a ∷ b ∷ c ∷ []) = refl
words_count (a ∷ b ∷ c ∷ d ∷ bytes) = let r = words_count bytes in omega arith

-- the number that four bytes from a place on stand for, the lowest first
abbrev pub word_from : List ℕ → ℕ → ℕ
word_from bytes at = get_or bytes at 0 + 256 * get_or bytes (at + 1) 0 + 65536 * get_or bytes (at + 2) 0 + 16777216 * get_or bytes (at + 3) 0

past_four : (a b c d : ℕ) (bytes : List ℕ) (at : ℕ) → word_from (a ∷ b ∷ c ∷ d ∷ bytes) (suc (suc (suc (suc at)))) ≡ word_from bytes at
past_four a b c d bytes at =
    let p : suc (suc (suc (suc at))) + 1 ≡ suc (suc (suc (suc (at + 1)))) = omega arith in
    let q : suc (suc (suc (suc at))) + 2 ≡ suc (suc (suc (suc (at + 2)))) = omega arith in
    let r : suc (suc (suc (suc at))) + 3 ≡ suc (suc (suc (suc (at + 3)))) = omega arith in
    rw (p, q, r)

-- the word at place i stands in the four bytes from i * 4 on
pub words_at : (bytes : List ℕ) (i : ℕ) → i < length (words_of bytes) → get_or (words_of bytes) i 0 ≡ word_from bytes (i * 4)
words_at [] i l = absurd (omega arith)
words_at (a ∷ []) i l = absurd (omega arith)
words_at (a ∷ b ∷ []) i l = absurd (omega arith)
words_at (a ∷ b ∷ c ∷ []) i l = absurd (omega arith)
words_at (a ∷ b ∷ c ∷ d ∷ bytes) zero l = refl
words_at (a ∷ b ∷ c ∷ d ∷ bytes) (suc i) l =
    let e : suc (suc (suc (suc (i * 4)))) ≡ suc i * 4 = omega arith in
    words_at bytes i (omega arith)
    ∙ sym (past_four a b c d bytes (i * 4))
    ∙ ap (word_from (a ∷ b ∷ c ∷ d ∷ bytes)) e

-- words of bytes are numbers of 32 bits
pub words_small : (bytes : List ℕ) → ((i : ℕ) → get_or bytes i 0 < 256) → (i : ℕ) → i < length (words_of bytes) → get_or (words_of bytes) i 0 < 2 ^ 32
words_small bytes h i l = let at : ℕ = i * 4 in omega (arith, words_at bytes i l, h at, h (at + 1), h (at + 2), h (at + 3))

-- without the first k words
pub words_drop : (k : ℕ) (bytes : List ℕ) → words_of (drop (4 * k) bytes) ≡ drop k (words_of bytes)
words_drop zero bytes = refl
words_drop (suc k) bytes =
    let e : 4 * suc k ≡ suc (suc (suc (suc (4 * k)))) = omega arith in
    ap (λ (n : ℕ). words_of (drop n bytes)) e ∙ at bytes (words_drop k)
  where
    at : (l : List ℕ) → ((m : List ℕ) → words_of (drop (4 * k) m) ≡ drop k (words_of m))
        → words_of (drop (suc (suc (suc (suc (4 * k))))) l) ≡ drop (suc k) (words_of l)
    at [] r = refl
    at (a ∷ []) r = refl
    at (a ∷ b ∷ []) r = refl
    at (a ∷ b ∷ c ∷ []) r = refl
    at (a ∷ b ∷ c ∷ d ∷ l) r = r l
