-- The bytes of words: how many there are, that each is below 256, the one at a place, and stores of one word after
-- another.
-- Assumes nothing.
use mathlib.Core.Path.{◌≡◌, refl, sym, ap, ap₂, ◌∙◌}
use mathlib.Core.List.{List, [], ◌∷◌, ◌++◌, append-nil, append_assoc}
use Prim.Native.Nat.{ℕ, zero, suc, ◌+◌, ◌*◌, ◌/◌, ◌%◌, ◌<◌, ◌≤◌, min}
use native.Mathlib.Numerals.{add-one}
use native.Mathlib.Omega.{arith}
use lib.ListN.{length, get_or, set, take, drop}
use lib.Seq.{sets, take-suc, take-nil, length-take-le}
use borrow.Rule.Slice.PartMut.{put_mid}
use Rattle.std.proofs.lemmas.List.{drop-drop}
use Rattle.std.proofs.lemmas.List.Edits.{sets-eq}
use Rattle.lists.proofs.Keep.{each_append}
use Rattle.lists.proofs.Stores.{sets_append}
use Rattle.c_words.specs.Bytes.{word_bytes, bytes_of}

-- four bytes for each word
pub bytes_count : (words : List ℕ) → length (bytes_of words) ≡ 4 * length words
unfolding bytes_of word_bytes
bytes_count [] = refl
bytes_count (w ∷ words) = let r = bytes_count words in omega arith

-- bytes are numbers below 256
pub bytes_small : (words : List ℕ) (i : ℕ) → get_or (bytes_of words) i 0 < 256
unfolding bytes_of word_bytes
bytes_small [] i = omega arith
bytes_small (w ∷ words) zero = omega arith
bytes_small (w ∷ words) (suc zero) = omega arith
bytes_small (w ∷ words) (suc (suc zero)) = omega arith
bytes_small (w ∷ words) (suc (suc (suc zero))) = omega arith
bytes_small (w ∷ words) (suc (suc (suc (suc i)))) = bytes_small words i

-- byte i is byte i % 4 of word i / 4
pub bytes_at : (words : List ℕ) (i : ℕ) → i < 4 * length words → get_or (bytes_of words) i 0 ≡ get_or (word_bytes (get_or words (i / 4) 0)) (i % 4) 0
unfolding bytes_of word_bytes
bytes_at [] i l = absurd (omega arith)
bytes_at (w ∷ words) zero l = refl
bytes_at (w ∷ words) (suc zero) l = refl
bytes_at (w ∷ words) (suc (suc zero)) l = refl
bytes_at (w ∷ words) (suc (suc (suc zero))) l = refl
bytes_at (w ∷ words) (suc (suc (suc (suc i)))) l =
    let q : suc (suc (suc (suc i))) / 4 ≡ suc (i / 4) = omega arith in
    let r : suc (suc (suc (suc i))) % 4 ≡ i % 4 = omega arith in
    rw (q, r) (bytes_at words i (omega arith))

-- with one word more
pub bytes_next : (words : List ℕ) (i : ℕ) → i < length words → bytes_of (take (i + 1) words) ≡ bytes_of (take i words) ++ word_bytes (get_or words i 0)
unfolding bytes_of
bytes_next words i l =
    rw (add-one, take-suc words i 0 l) (each_append word_bytes (take i words) (get_or words i 0 ∷ []))
    ∙ ap (λ (r : List ℕ). bytes_of (take i words) ++ r) (append-nil (word_bytes (get_or words i 0)))

-- a part of lent bytes, after the four bytes of a word are copied over it
pub store_word : (lent : List ℕ) (at k w : ℕ) (four : List ℕ) → four ≡ word_bytes w → k ≡ 4 → at + 4 ≤ length lent → put_mid at k lent four ≡ sets lent at (word_bytes w)
unfolding word_bytes
store_word lent at k w four e n l =
    let past : at + 4 ≡ at + length (word_bytes w) = omega arith in
    ap₂ (λ (m : ℕ) (bytes : List ℕ). put_mid at m lent bytes) n e
    ∙ ap (λ (rest : List ℕ). take at lent ++ (word_bytes w ++ rest)) (drop-drop 4 at lent ∙ ap (λ (m : ℕ). drop m lent) past)
    ∙ sym (append_assoc (take at lent) (word_bytes w) (drop (at + length (word_bytes w)) lent))
    ∙ sym (sets-eq (word_bytes w) lent at (omega arith))

-- one store more: after the first i words are stored, the next is stored from i * 4 on
pub store_next : (words lent : List ℕ) (i : ℕ) → i < length words
    → sets (sets lent 0 (bytes_of (take i words))) (i * 4) (word_bytes (get_or words i 0)) ≡ sets lent 0 (bytes_of (take (i + 1) words))
store_next words lent i l =
    let e : i * 4 ≡ 0 + length (bytes_of (take i words)) = omega (arith, bytes_count (take i words), length-take-le i words (omega arith)) in
    ap (λ (n : ℕ). sets (sets lent 0 (bytes_of (take i words))) n (word_bytes (get_or words i 0))) e
    ∙ sym (sets_append (bytes_of (take i words)) (word_bytes (get_or words i 0)) lent 0)
    ∙ ap (sets lent 0) (sym (bytes_next words i l))

-- the byte at place i is stored after those before it
pub store_byte : (bytes lent : List ℕ) (i : ℕ) → i < length bytes → set (sets lent 0 (take i bytes)) i (get_or bytes i 0) ≡ sets lent 0 (take (i + 1) bytes)
store_byte bytes lent i l =
    let e : i ≡ 0 + length (take i bytes) = omega (arith, length-take-le i bytes (omega arith)) in
    ap (λ (n : ℕ). set (sets lent 0 (take i bytes)) n (get_or bytes i 0)) e
    ∙ sym (sets_append (take i bytes) (get_or bytes i 0 ∷ []) lent 0)
    ∙ rw (add-one, take-suc bytes i 0 l)

-- as many as there are, and no more
pub take_within : (n : ℕ) (bytes : List ℕ) → take (min n (length bytes)) bytes ≡ take n bytes
take_within zero bytes = let e : min zero (length bytes) ≡ zero = omega arith in rw e
take_within (suc n) [] = take-nil (min (suc n) 0)
take_within (suc n) (b ∷ bytes) =
    let e : min (suc n) (suc (length bytes)) ≡ suc (min n (length bytes)) = omega arith in
    rw e (ap (λ (r : List ℕ). b ∷ r) (take_within n bytes))
