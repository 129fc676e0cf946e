-- An entry's five words that are copied are the entry that stood in the table.
-- Assumes nothing.
use mathlib.Core.Path.{◌≡◌, ap, ◌∙◌}
use mathlib.Core.List.{List}
use Prim.Native.Nat.{ℕ, ◌+◌, ◌<◌}
use native.Mathlib.Omega.{arith}
use lib.ListN.{get_or, take, drop}
use lib.Seq.{get_or-take, get_or-drop}
use Rattle.model.specs.Table.{Entry}

-- the entry whose words begin at a place
abbrev pub entry_from : List ℕ → ℕ → Entry
entry_from words at =
    record {
      row = get_or words at 0;
      known = get_or words (at + 1) 0;
      values = get_or words (at + 2) 0;
      tick = get_or words (at + 3) 0;
      place = get_or words (at + 4) 0;
    }

module _ (words : List ℕ) (at : ℕ) where
  word_copied : (k : ℕ) → k < 5 → get_or (take 5 (drop at words)) k 0 ≡ get_or words (at + k) 0
  word_copied k l = get_or-take 5 (drop at words) k 0 l ∙ get_or-drop at words k 0

  pub entry_copied : {five : List ℕ} → five ≡ take 5 (drop at words) → entry_from five 0 ≡ entry_from words at
  entry_copied e =
      let first : at + 0 ≡ at = omega arith in
      ap (λ (five : List ℕ). entry_from five 0) e
      ∙ (λ i. record {
        row = (word_copied 0 (omega arith) ∙ ap (λ (k : ℕ). get_or words k 0) first) i;
        known = word_copied 1 (omega arith) i;
        values = word_copied 2 (omega arith) i;
        tick = word_copied 3 (omega arith) i;
        place = word_copied 4 (omega arith) i;
      })
