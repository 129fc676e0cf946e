-- The entries of a table by their numbers: entry i stands at words 5i to 5i + 4, and there are as many as whole fives
-- of words.
-- Assumes nothing.
use mathlib.Core.Path.{◌≡◌, refl, sym, ap, ◌∙◌}
use mathlib.Core.List.{List, [], ◌∷◌}
use Prim.Native.Nat.{ℕ, zero, suc, ◌+◌, ◌*◌, ◌/◌, ◌≤◌, ◌<◌}
use native.Mathlib.Numerals.{add-one}
use native.Mathlib.Omega.{arith}
use lib.ListN.{length, get_or, drop}
use Rattle.model.specs.Table.{Entry, entries_of}
use Rattle.kernel_rows.specs.Entries.{entry_at}

-- five words more
module _ (a b c d e : ℕ) (ws : List ℕ) (i : ℕ) where
  word_on : (k : ℕ) → get_or (a ∷ b ∷ c ∷ d ∷ e ∷ ws) (suc i * 5 + k) 0 ≡ get_or ws (i * 5 + k) 0
  word_on k =
      let q : suc i * 5 + k ≡ suc (suc (suc (suc (suc (i * 5 + k))))) = omega arith in
      ap (λ (n : ℕ). get_or (a ∷ b ∷ c ∷ d ∷ e ∷ ws) n 0) q

  first_on : get_or (a ∷ b ∷ c ∷ d ∷ e ∷ ws) (suc i * 5) 0 ≡ get_or ws (i * 5) 0
  first_on =
      let q : suc i * 5 ≡ suc (suc (suc (suc (suc (i * 5))))) = omega arith in
      ap (λ (n : ℕ). get_or (a ∷ b ∷ c ∷ d ∷ e ∷ ws) n 0) q

  five_on : entry_at (a ∷ b ∷ c ∷ d ∷ e ∷ ws) (suc i) ≡ entry_at ws i
  five_on j =
      record {
        row = first_on j;
        known = word_on 1 j;
        values = word_on 2 j;
        tick = word_on 3 j;
        place = word_on 4 j;
      }

-- entry i, and those after it
split : (ws : List ℕ) (i : ℕ) → i * 5 + 5 ≤ length ws → drop i (entries_of ws) ≡ entry_at ws i ∷ drop (suc i) (entries_of ws)
split [] i l = absurd (omega arith)
split (a ∷ []) i l = absurd (omega arith)
split (a ∷ b ∷ []) i l = absurd (omega arith)
split (a ∷ b ∷ c ∷ []) i l = absurd (omega arith)
split (a ∷ b ∷ c ∷ d ∷ []) i l = absurd (omega arith)
split (a ∷ b ∷ c ∷ d ∷ e ∷ ws) zero l = refl
split (a ∷ b ∷ c ∷ d ∷ e ∷ ws) (suc i) l = split ws i (omega arith) ∙ ap (λ (x : Entry). x ∷ drop (suc i) (entries_of ws)) (sym (five_on a b c d e ws i))

nothing_left : (ws : List ℕ) (i : ℕ) → length ws < i * 5 + 5 → drop i (entries_of ws) ≡ []
nothing_left [] zero l = refl
nothing_left [] (suc i) l = refl
nothing_left (a ∷ []) zero l = refl
nothing_left (a ∷ []) (suc i) l = refl
nothing_left (a ∷ b ∷ []) zero l = refl
nothing_left (a ∷ b ∷ []) (suc i) l = refl
nothing_left (a ∷ b ∷ c ∷ []) zero l = refl
nothing_left (a ∷ b ∷ c ∷ []) (suc i) l = refl
nothing_left (a ∷ b ∷ c ∷ d ∷ []) zero l = refl
nothing_left (a ∷ b ∷ c ∷ d ∷ []) (suc i) l = refl
nothing_left (a ∷ b ∷ c ∷ d ∷ e ∷ ws) zero l = absurd (omega arith)
nothing_left (a ∷ b ∷ c ∷ d ∷ e ∷ ws) (suc i) l = nothing_left ws i (omega arith)

module _ (ws : List ℕ) (i : ℕ) where
  pub entries_next : i < length ws / 5 → drop i (entries_of ws) ≡ entry_at ws i ∷ drop (i + 1) (entries_of ws)
  entries_next l = split ws i (omega arith) ∙ ap (λ (n : ℕ). entry_at ws i ∷ drop n (entries_of ws)) (sym (add-one i))

  pub entries_end : length ws / 5 ≤ i → drop i (entries_of ws) ≡ []
  entries_end l = nothing_left ws i (omega arith)
