-- Words that are written as bytes are read back, also from the front of bytes that were lent.
-- Assumes nothing.
use mathlib.Core.Path.{◌≡◌, refl, sym, ap, ◌∙◌}
use mathlib.Core.List.{List, [], ◌∷◌, ◌++◌, append-nil}
use Prim.Native.Nat.{ℕ, suc, ◌+◌, ◌*◌, ◌/◌, ◌%◌, ◌≤◌, ◌<◌, ◌^◌}
use native.Mathlib.Nat.{div-div-eq-div-mul, mod-eq_of_lt}
use native.Mathlib.Omega.{arith}
use lib.ListN.{length, get_or, take, drop, length-take, get_or-append}
use lib.Seq.{get_or-take}
use Rattle.lists.specs.Front.{front}
use Rattle.lists.proofs.Front.{front_length}
use Rattle.model.specs.Firmware.{words_of}
use Rattle.c_words.specs.Bytes.{word_bytes, bytes_of}
use Rattle.c_words.proofs.Reading.{words_drop, words_count, words_at}
use Rattle.c_words.proofs.Writing.{bytes_count}

-- numbers that words of 32 bits hold
abbrev pub Words : List ℕ → Type 0
Words words = (i : ℕ) → i < length words → get_or words i 0 < 2 ^ 32

-- a word is its lowest byte, and 256 times the others
lowest : (w : ℕ) → w % 256 + 256 * (w / 256) ≡ w
lowest w = omega arith

sum_of_four : (w x y z a b c : ℕ) → a + 256 * x ≡ w → b + 256 * y ≡ x → c + 256 * z ≡ y → a + 256 * b + 65536 * c + 16777216 * z ≡ w
sum_of_four w x y z a b c p q r = omega arith

-- a word is put together again
together : (w : ℕ) → w < 2 ^ 32 → w % 256 + 256 * (w / 256 % 256) + 65536 * (w / 65536 % 256) + 16777216 * (w / 16777216 % 256) ≡ w
together w l =
    let top : w / 16777216 % 256 ≡ w / 16777216 = mod-eq_of_lt (omega arith) in
    let p : w / 256 / 256 ≡ w / 65536 = div-div-eq-div-mul w 256 256 in
    let q : w / 65536 / 256 ≡ w / 16777216 = div-div-eq-div-mul w 65536 256 in
    rw top
    (sum_of_four w (w / 256) (w / 65536) (w / 16777216) (w % 256) (w / 256 % 256) (w / 65536 % 256) (lowest w)
    (ap (λ (n : ℕ). w / 256 % 256 + 256 * n) (sym p) ∙ lowest (w / 256)) (ap (λ (n : ℕ). w / 65536 % 256 + 256 * n) (sym q) ∙ lowest (w / 65536)))

-- first the words written, then the words of what follows
pub words_then : (words rest : List ℕ) → Words words → words_of (bytes_of words ++ rest) ≡ words ++ words_of rest
unfolding bytes_of word_bytes
words_then [] rest s = refl
words_then (w ∷ words) rest s = λ j. together w (s 0 (omega arith)) j ∷ words_then words rest (λ i l. s (suc i) (omega arith)) j

no_words : (stray : List ℕ) → length stray < 4 → words_of stray ≡ []
no_words [] l = refl
no_words (a ∷ []) l = refl
no_words (a ∷ b ∷ []) l = refl
no_words (a ∷ b ∷ c ∷ []) l = refl
no_words (a ∷ b ∷ c ∷ d ∷ stray) l = absurd (omega arith)

-- up to three stray bytes are ignored
pub words_back : (words stray : List ℕ) → Words words → length stray < 4 → words_of (bytes_of words ++ stray) ≡ words
words_back words stray s l = words_then words stray s ∙ ap (λ (r : List ℕ). words ++ r) (no_words stray l) ∙ append-nil words

-- words put to the front of lent bytes stand at the front of the words that these hold
pub words_front : (words lent : List ℕ) → Words words → words_of (front (bytes_of words) lent) ≡ front words (words_of lent)
unfolding front
words_front words lent s =
    words_then words (drop (length (bytes_of words)) lent) s
    ∙ ap (λ (n : ℕ). words ++ words_of (drop n lent)) (bytes_count words)
    ∙ ap (λ (r : List ℕ). words ++ r) (words_drop (length words) lent)

-- words put to the front of lent bytes as far as these go: each that finds room stands there
module _ (words lent : List ℕ) (small : Words words) (k : ℕ) (there : k < length words) (room : k * 4 + 4 ≤ length lent) where
  abbrev put : List ℕ
  put = take (length lent) (bytes_of words)

  abbrev after : List ℕ
  after = front put lent

  byte_there : (j : ℕ) → j < k * 4 + 4 → get_or after j 0 ≡ get_or (bytes_of words) j 0
  unfolding front
  byte_there j l =
      get_or-append put (drop (length put) lent) 0 j (omega (arith, length-take (length lent) (bytes_of words), bytes_count words))
      ∙ get_or-take (length lent) (bytes_of words) j 0 (omega arith)

  pub word_there : get_or (words_of after) k 0 ≡ get_or words k 0
  word_there =
      let long : length after ≡ length lent = front_length put lent (omega (arith, length-take (length lent) (bytes_of words))) in
      words_at after k (omega (arith, words_count after))
      ∙ (λ i. byte_there (k * 4) (omega arith) i + 256 * byte_there (k * 4 + 1) (omega arith) i + 65536 * byte_there (k * 4 + 2) (omega arith) i + 16777216 * byte_there (k * 4 + 3) (omega arith) i)
      ∙ sym (words_at (bytes_of words) k (omega (arith, words_count (bytes_of words), bytes_count words)))
      ∙ ap (λ (ws : List ℕ). get_or ws k 0) (ap words_of (sym (append-nil (bytes_of words))) ∙ words_back words [] small (omega arith))
