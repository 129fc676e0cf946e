-- Frames written as words: what is left to write gives the whole.
-- Assumes nothing.
use mathlib.Core.Path.{◌≡◌, refl, sym, ap, ◌∙◌}
use mathlib.Core.List.{List, [], ◌∷◌}
use Prim.Native.Nat.{ℕ, ◌+◌, ◌*◌, ◌/◌, ◌%◌, ◌≤◌, ◌<◌}
use native.Mathlib.Numerals.{add-one, add-two, add-three}
use native.Mathlib.Omega.{arith}
use lib.ListN.{length, get_or, set, take, length-set}
use lib.Seq.{slice, sets, slice_empty, slice-cons, length-take-le}
use Rattle.lists.specs.Front.{front}
use Rattle.lists.proofs.Stores.{sets_front}
use Rattle.table_frames.specs.Packed.{packed_words}

pub length_words : (ys : List ℕ) → length (packed_words ys) ≡ 3 * length ys
unfolding packed_words
length_words [] = omega arith
length_words (y ∷ ys) = let r = length_words ys in omega arith

pub record Written (list lent : List ℕ) (n : ℕ) (words : List ℕ) (i : ℕ) : Type 0 where
  pub inside : i ≤ n
  pub long : length words ≡ length lent
  pub gives : sets words (3 * i) (packed_words (slice i n list)) ≡ front (packed_words (take n list)) lent

module _ (list lent : List ℕ) (n : ℕ) (room : n ≤ length list) where
  pub written_start : 3 * n ≤ length lent → Written list lent n lent 0
  written_start l =
      record {
        inside = omega arith;
        long = refl;
        gives = sets_front (packed_words (take n list)) lent (omega (arith, length_words (take n list), length-take-le n list room));
      }

  -- the three words of a frame, stored one behind another
  pub written_next : {words : List ℕ} {i a b c : ℕ} → i < n → Written list lent n words i → a ≡ get_or list i 0 / 1024 → b ≡ get_or list i 0 % 1024 / 128 → c ≡ get_or list i 0 % 128 →
      Written list lent n (set (set (set words (3 * i) a) (3 * i + 1) b) (3 * i + 2) c) (i + 1)
  unfolding packed_words
  written_next {words} {i} {a} {b} {c} l w e f g =
      let k : ℕ = 3 * i in
      let q : 3 * (i + 1) ≡ k + 3 = omega arith in
      let y : ℕ = get_or list i 0 in
      let rest : List ℕ = packed_words (slice (i + 1) n list) in
      let s : slice i n list ≡ y ∷ slice (i + 1) n list = slice-cons i n list 0 l room ∙ ap (λ (j : ℕ). y ∷ slice j n list) (sym (add-one i)) in
      record {
        inside = omega arith;
        long =
            length-set (set (set words k a) (k + 1) b) (k + 2) c ∙ length-set (set words k a) (k + 1) b ∙ length-set words k a ∙ w.long;
        gives =
            (λ j. sets (set (set (set words k (e j)) (add-one k j) (f j)) (add-two k j) (g j)) ((q ∙ add-three k) j) rest)
            ∙ sym (ap (λ (r : List ℕ). sets words k (packed_words r)) s)
            ∙ w.gives;
      }

  pub written_end : {words : List ℕ} {i : ℕ} → n ≤ i → Written list lent n words i → words ≡ front (packed_words (take n list)) lent
  unfolding packed_words
  written_end {words} {i} l w =
      let q : i ≡ n = omega (arith, w.inside) in
      sym (ap (λ (r : List ℕ). sets words (3 * i) (packed_words r)) (ap (λ (j : ℕ). slice j n list) q ∙ slice_empty n list)) ∙ w.gives
