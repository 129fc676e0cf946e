-- A log of one combination in memory, and what its rows are read with: its arrays, and where each stands in one list.
-- Assumes nothing.
use Rattle.std.specs.Prelude.{ℕ, List, set, replicate}
use Rattle.lists.specs.Cut.{cut}

pub record Rows : Type 0 where
  pub run : List ℕ
  pub unmet : List ℕ
  pub comes : List ℕ
  pub place : List ℕ

-- how many numbers there are
abbrev pub WORDS : ℕ
WORDS = 588

-- the arrays that stand in a list
unfoldable pub rows_of : List ℕ → Rows
rows_of s =
    record {
      run = cut s 0 64;
      unmet = cut s 64 128;
      comes = cut s 192 198;
      place = cut s 390 198;
    }

-- all as before but one array
abbrev pub with_run : List ℕ → Rows → Rows
with_run xs s = record { run = xs; unmet = s.unmet; comes = s.comes; place = s.place }

abbrev pub with_unmet : List ℕ → Rows → Rows
with_unmet xs s = record { run = s.run; unmet = xs; comes = s.comes; place = s.place }

abbrev pub with_comes : List ℕ → Rows → Rows
with_comes xs s = record { run = s.run; unmet = s.unmet; comes = xs; place = s.place }

abbrev pub with_place : List ℕ → Rows → Rows
with_place xs s = record { run = s.run; unmet = s.unmet; comes = s.comes; place = xs }

-- all as before but one number
abbrev pub put_run : ℕ → ℕ → Rows → Rows
put_run i x s = with_run (set s.run i x) s

abbrev pub put_unmet : ℕ → ℕ → Rows → Rows
put_unmet i x s = with_unmet (set s.unmet i x) s

abbrev pub put_comes : ℕ → ℕ → Rows → Rows
put_comes i x s = with_comes (set s.comes i x) s

abbrev pub put_place : ℕ → ℕ → Rows → Rows
put_place i x s = with_place (set s.place i x) s

-- all zeros
abbrev pub no_rows : Rows
no_rows = record { run = replicate 64 0; unmet = replicate 128 0; comes = replicate 198 0; place = replicate 198 0 }
