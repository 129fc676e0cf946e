-- A table's words from a place on begin with the entry at that place, so that a loop goes through the entries one by
-- one.
-- Assumes nothing.
use mathlib.Core.Path.{◌≡◌, refl, sym, ap, ◌∙◌}
use mathlib.Core.List.Memᴰ.{head as here}
use mathlib.Core.List.Memᴰ.{tail as there}
use mathlib.Core.List.{List, ◌∷◌}
use Prim.Native.Nat.{ℕ, ◌+◌, ◌≤◌, ◌<◌}
use native.Mathlib.Omega.{arith}
use lib.Bits.{bit_and}
use lib.ListN.{length, get_or, drop, set, replicate, drop_of_length-le}
use borrow.Author.Tests.{eq-eqb, ne_eqb}
use Rattle.lists.proofs.Parts.{drop_one}
use Rattle.model.specs.Table.{Entry, entries_of}
use Rattle.log_rows.specs.Rows.{Rows, with_comes, with_place, put_comes, put_place}
use Rattle.checker_rows.specs.MetRows.{entry_from, ends, placed, after, after_all, after_entry, by_row, Rowed}

-- an array after an entry that is met, and after one that is not
module _ (f : Entry → ℕ → ℕ) (c : ℕ) (e : Entry) (xs : List ℕ) where
  pub stored : {i v : ℕ} → e.values ≡ bit_and c e.known → i ≡ e.row → v ≡ f e (get_or xs e.row 0) → set xs i v ≡ after f c e xs
  stored q r s = rw (r, s, eq-eqb e.values (bit_and c e.known) q)

  pub skipped : (e.values ≡ bit_and c e.known → ⊥) → xs ≡ after f c e xs
  skipped q = rw (ne_eqb e.values (bit_and c e.known) q)

-- the rows of a combination after an entry that is met, and after one that is not
module _ (lasting : List ℕ) (c : ℕ) (e : Entry) (s : Rows) where
  pub entry_stored : {i x y : ℕ} {t r : Rows} → e.values ≡ bit_and c e.known → i ≡ e.row → x ≡ e.tick + get_or lasting e.row 0 + 1 → y ≡ e.place →
      t ≡ put_comes i x s → r ≡ put_place i y t → r ≡ after_entry lasting c e s
  entry_stored {i} {x} {y} q p xq yq tq rq =
      rq ∙ ap (put_place i y) tq
      ∙ (λ k. with_place (stored placed c e s.place q p yq k) (with_comes (stored (ends lasting) c e s.comes q p xq k) s))

  pub entry_skipped : (e.values ≡ bit_and c e.known → ⊥) → s ≡ after_entry lasting c e s
  entry_skipped q =
      λ k. record { run = s.run; unmet = s.unmet; comes = skipped (ends lasting) c e s.comes q k; place = skipped placed c e s.place q k }

-- only `comes` and `place` of the rows differ from those before
abbrev pub OnlyMet : Rows → Rows → Type 0
OnlyMet s r = r ≡ with_place r.place (with_comes r.comes s)

pub only_next : (lasting : List ℕ) (c : ℕ) (e : Entry) (s r : Rows) {t : Rows} → t ≡ after_entry lasting c e r → OnlyMet s r → OnlyMet s t
only_next lasting c e s r {t} q h =
    λ k.
    record {
      run = (ap (λ (x : Rows). x.run) q ∙ ap (λ (x : Rows). x.run) h) k;
      unmet = (ap (λ (x : Rows). x.unmet) q ∙ ap (λ (x : Rows). x.unmet) h) k;
      comes = t.comes;
      place = t.place;
    }

pub only_end : (s : Rows) {r : Rows} {xs ys : List ℕ} → OnlyMet s r → r.comes ≡ xs → r.place ≡ ys → r ≡ with_place ys (with_comes xs s)
only_end s h p q = h ∙ (λ k. with_place (q k) (with_comes (p k) s))

module _ (words : List ℕ) where
  one_word : (i j : ℕ) → i + 1 ≡ j → i < length words → drop i words ≡ get_or words i 0 ∷ drop j words
  one_word i j q l = drop_one words i l ∙ ap (λ (k : ℕ). get_or words i 0 ∷ drop k words) q

  pub entries_next : (at : ℕ) → at + 5 ≤ length words → entries_of (drop at words) ≡ entry_from words at ∷ entries_of (drop (at + 5) words)
  entries_next at l =
      rw (one_word at (at + 1) (omega arith) (omega arith))
      (rw (one_word (at + 1) (at + 2) (omega arith) (omega arith))
      (rw (one_word (at + 2) (at + 3) (omega arith) (omega arith))
      (rw (one_word (at + 3) (at + 4) (omega arith) (omega arith))
      (rw (one_word (at + 4) (at + 5) (omega arith) (omega arith)) refl))))

  -- what holds of all entries from a place on holds of the first, and of those behind it
  pub rowed_here : (at : ℕ) → at + 5 ≤ length words → Rowed (drop at words) → (get_or words at 0 < 198) × (get_or words (at + 3) 0 ≤ 999999999)
  rowed_here at l h = h (entry_from words at) (rw (entries_next at l) (here refl))

  pub rowed_next : (at : ℕ) {next : ℕ} → at + 5 ≤ length words → at + 5 ≡ next → Rowed (drop at words) → Rowed (drop next words)
  rowed_next at l n h e m = h e (rw (entries_next at l, n) (there m))

  -- what the entries from a place on leave in an array is what all of them leave
  module _ (f : Entry → ℕ → ℕ) (c : ℕ) where
    pub left_start : {xs : List ℕ} → xs ≡ replicate 198 0 → after_all f c (entries_of (drop 0 words)) xs ≡ by_row f c words
    unfolding by_row
    left_start q = ap (after_all f c (entries_of words)) q

    pub left_next : (at : ℕ) (xs : List ℕ) {ys : List ℕ} {next : ℕ} → at + 5 ≤ length words → at + 5 ≡ next → ys ≡ after f c (entry_from words at) xs →
        after_all f c (entries_of (drop at words)) xs ≡ by_row f c words → after_all f c (entries_of (drop next words)) ys ≡ by_row f c words
    unfolding after_all
    left_next at xs {ys} l n q h =
        ap (λ (k : ℕ). after_all f c (entries_of (drop k words)) ys) (sym n)
        ∙ ap (after_all f c (entries_of (drop (at + 5) words))) q ∙ sym (ap (λ (es : List Entry). after_all f c es xs) (entries_next at l)) ∙ h

    pub left_end : (at : ℕ) {xs : List ℕ} → length words ≤ at → after_all f c (entries_of (drop at words)) xs ≡ by_row f c words → xs ≡ by_row f c words
    unfolding after_all
    left_end at {xs} l h = sym (ap (λ (ws : List ℕ). after_all f c (entries_of ws) xs) (drop_of_length-le words l)) ∙ h
