-- The rows of a combination are stored one by one in its part of an array: the part then holds them, and the parts
-- before it are as they were. The same of its notes.
-- Assumes nothing.
use mathlib.Core.Path.{◌≡◌, refl, sym, ap, ◌∙◌}
use mathlib.Core.List.{List, [], ◌∷◌}
use Prim.Native.Nat.{ℕ, suc, ◌+◌, ◌*◌, ◌≤◌, ◌<◌}
use native.Mathlib.Omega.{arith}
use lib.ListN.{length, get_or, set, take, drop}
use lib.Seq.{sets, sets-eq, take-set-le, length-take-le, length-sets}
use mathlib.Core.List.{append_assoc}
use Rattle.lists.proofs.Parts.{middle}
use Rattle.lists.proofs.Stores.{sets_before, sets_at}
use Rattle.table_entries.specs.Logs.{block}

-- what stands before the place stored at is as it was
take_sets : (n : ℕ) (all : List ℕ) (i : ℕ) (vs : List ℕ) → n ≤ i → take n (sets all i vs) ≡ take n all
take_sets n all i [] l = refl
take_sets n all i (v ∷ vs) l = take_sets n (set all i v) (suc i) vs (omega arith) ∙ take-set-le n all i v l

-- combination c's part holds what was stored
pub block_stored : (all rows : List ℕ) (c : ℕ) → length rows ≡ 198 → c * 198 + 198 ≤ length all → block (sets all (c * 198) rows) c ≡ rows
block_stored all rows c q l =
    let a : List ℕ = take (c * 198) all in
    let d : List ℕ = drop (c * 198 + length rows) all in
    let n : length a ≡ c * 198 = length-take-le (c * 198) all (omega arith) in
    let m : c * 198 + 198 ≡ length a + length rows = omega arith in
    (λ i. drop (sym n i) (take (m i) (sets-eq rows all (c * 198) (omega arith) i)))
    ∙ ap (λ (xs : List ℕ). drop (length a) (take (length a + length rows) xs)) (append_assoc a rows d)
    ∙ middle a rows d

-- an earlier one is as it was
pub block_before : (all rows : List ℕ) (c d : ℕ) → d < c → block (sets all (c * 198) rows) d ≡ block all d
block_before all rows c d l = ap (drop (d * 198)) (take_sets (d * 198 + 198) all (c * 198) rows (omega arith))

-- a combination's notes: what was noted for the conditions, and the last counts after it
module _ (notes noted counts : List ℕ) (c : ℕ) (long : length noted ≡ 48) (eight : length counts ≡ 8) (room : c * 56 + 56 ≤ length notes) where
  pub notes_own : (i : ℕ) → i < 48 → get_or (sets (sets notes (c * 56) noted) (c * 56 + 48) counts) (c * 56 + i) 0 ≡ get_or noted i 0
  notes_own i l =
      sets_before (sets notes (c * 56) noted) (c * 56 + 48) (c * 56 + i) counts (omega arith) ∙ sets_at notes (c * 56) noted i (omega (arith, long)) (omega (arith, long))

  pub notes_last : (n : ℕ) → n < 8 → get_or (sets (sets notes (c * 56) noted) (c * 56 + 48) counts) (c * 56 + 48 + n) 0 ≡ get_or counts n 0
  notes_last n l =
      sets_at (sets notes (c * 56) noted) (c * 56 + 48) counts n (omega (arith, eight)) (omega (arith, eight, length-sets notes (c * 56) noted))

  pub notes_others : (i : ℕ) → i < c * 56 → get_or (sets (sets notes (c * 56) noted) (c * 56 + 48) counts) i 0 ≡ get_or notes i 0
  notes_others i l = sets_before (sets notes (c * 56) noted) (c * 56 + 48) i counts (omega arith) ∙ sets_before notes (c * 56) i noted (omega arith)
