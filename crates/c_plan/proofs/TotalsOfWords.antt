-- The totals of a plan, stored as the first words of an array: three words one by one, and the counts of the nodes
-- behind them; and put from there into lent bytes.
-- Assumes nothing.
use mathlib.Core.Path.{◌≡◌, sym, ap, ◌∙◌}
use mathlib.Core.List.{List, ◌∷◌}
use Prim.Native.Nat.{ℕ, ◌+◌, ◌≤◌}
use native.Mathlib.Omega.{arith}
use lib.ListN.{length, set, take, length-set}
use lib.Seq.{sets}
use Rattle.lists.specs.Front.{front}
use Rattle.lists.proofs.Front.{front_length, front_written}
use Rattle.lists.proofs.Stores.{sets_front}
use Rattle.c_words.specs.Bytes.{bytes_of}

-- an array is as long before three stores as after them
pub three_long : (lent : List ℕ) (i j k a b c : ℕ) {n : ℕ} → length (set (set (set lent i a) j b) k c) ≡ n → length lent ≡ n
three_long lent i j k a b c e = sym (length-set (set (set lent i a) j b) k c ∙ length-set (set lent i a) j b ∙ length-set lent i a) ∙ e

module _ (words framewords delay : ℕ) (counts lent : List ℕ) (room : 3 + length counts ≤ length lent) where
  -- three stores and a run of stores
  pub totals_stored : {now : List ℕ} → now ≡ sets (set (set (set lent 0 words) 1 framewords) 2 delay) 3 counts → now ≡ front (words ∷ framewords ∷ delay ∷ counts) lent
  totals_stored e = e ∙ sets_front (words ∷ framewords ∷ delay ∷ counts) lent (omega arith)

  module _ {now : List ℕ} (e : now ≡ front (words ∷ framewords ∷ delay ∷ counts) lent) where
    -- the array is as long as it was
    pub totals_long : length now ≡ length lent
    totals_long = ap length e ∙ front_length (words ∷ framewords ∷ delay ∷ counts) lent (omega arith)

    -- three words and one for each count, put into lent bytes, are the totals put there
    pub totals_put : (bytes : List ℕ) {bytes-now : List ℕ} → bytes-now ≡ front (take (length bytes) (bytes_of (take (3 + length counts) now))) bytes →
        bytes-now ≡ front (take (length bytes) (bytes_of (words ∷ framewords ∷ delay ∷ counts))) bytes
    totals_put bytes put =
        let q : 3 + length counts ≡ length (words ∷ framewords ∷ delay ∷ counts) = omega arith in
        put
        ∙ ap (λ (ws : List ℕ). front (take (length bytes) (bytes_of ws)) bytes)
        ((λ i. take (q i) (e i)) ∙ front_written (words ∷ framewords ∷ delay ∷ counts) lent)
