-- A list of frames as words, three to a frame, of which the first is its tick; and marks, one for each frame.
-- Assumes nothing.
use Rattle.std.specs.Prelude.{◌≡◌, Bool, true, false, List, ℕ, ◌*◌, ◌<◌, ◌≤◌, length, get_or}

-- an answer tells whether something holds
abbrev pub Tells : Bool → Type 0 → Type 0
Tells b P = (b ≡ true → P) × (b ≡ false → P → ⊥)

-- "ascending ticks": a later frame has a greater tick
abbrev pub Ascends : List ℕ → Type 0
Ascends frames = (i j : ℕ) → i < j → 3 * j < length frames → get_or frames (3 * i) 0 < get_or frames (3 * j) 0

-- the first k frames, and no other, have smaller ticks
pub record Before (frames : List ℕ) (tick k : ℕ) : Type 0 where
  pub within : 3 * k ≤ length frames
  pub smaller : (i : ℕ) → i < k → get_or frames (3 * i) 0 < tick
  pub others : (i : ℕ) → k ≤ i → 3 * i < length frames → tick ≤ get_or frames (3 * i) 0

-- the first n frames are marked
abbrev pub AllMarked : List ℕ → ℕ → Type 0
AllMarked marks n = (k : ℕ) → k < n → get_or marks k 0 ≡ 1
