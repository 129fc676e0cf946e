-- What is read off arrays by row that hold the entries of a table that a combination meets.
-- Assumes nothing.
use Rattle.std.specs.Prelude.{◌≡◌, Bool, List, ℕ, ◌-◌, ◌<◌, ◌≤◌, get_or}
use Rattle.lists.specs.Lists.{any, upfrom}

-- a test holds at some number from a up to before n
abbrev pub some : (ℕ → Bool) → ℕ → ℕ → Bool
some f a n = any f (upfrom a (n - a))

-- the clock at which a met row starts
unfoldable pub start_by : List ℕ → List ℕ → ℕ → ℕ
start_by comes span r = get_or comes r 0 - get_or span r 0

-- a met row starts at a clock that is not 0, and its tick is small
pub record Readable (comes span : List ℕ) : Type 0 where
  pub soon : (r : ℕ) → get_or comes r 0 ≤ 1000100000
  pub lasts : (r : ℕ) → (get_or comes r 0 ≡ 0 → ⊥) → get_or span r 0 < get_or comes r 0
