-- Lines that a reader gives one after another from a position on, up to where it gives none.
-- Assumes nothing.
use Rattle.std.specs.Prelude.{ℕ, ◌≤◌, ◌<◌, ◌≡◌, List, [], ◌∷◌, length, take, Option, None, Some}
use Rattle.std.specs.Borrow.{Bor}
use Rattle.lists.specs.Front.{front}

-- what a reader may answer at a position of a text, by what it may answer for a reference to it
abbrev pub Answers : {L : Type 0} → (Bor (List ℕ) → ℕ → Option (L × ℕ) → Type 0) → List ℕ → ℕ → Option (L × ℕ) → Type 0
Answers post text i r = (t : Bor (List ℕ)) × (t.now ≡ text) × post t i r

-- the lines from `i` on, which end at `j`, where none stands
abbrev pub Chain : {L : Type 0} → (ℕ → Option (L × ℕ) → Type 0) → ℕ → List L → ℕ → Type 0
Chain answers i [] j = answers i None × (i ≡ j)
Chain answers i (x ∷ xs) j = (k : ℕ) × answers i (Some (x, k)) × Chain answers k xs j

-- a line ends behind its beginning, within a text of so many bytes
abbrev pub Forward : {L : Type 0} → (ℕ → Option (L × ℕ) → Type 0) → ℕ → Type 0
Forward {L} answers size = (i : ℕ) (x : L) (k : ℕ) → answers i (Some (x, k)) → (i < k) × (k ≤ size)

-- The lines from `at` to `next` are counted, and stand in front as far as there is room.
pub record Kept {L : Type 0} (answers : ℕ → Option (L × ℕ) → Type 0) (at : ℕ) (before after : List L) (count next : ℕ) : Type 0 where
  pub lines : List L
  pub read : Chain answers at lines next
  pub all : count ≡ length lines
  pub kept : after ≡ front (take (length before) lines) before
