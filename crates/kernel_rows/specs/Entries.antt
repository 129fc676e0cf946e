-- The entries of a table by their numbers.
-- Assumes nothing.
use Rattle.std.specs.Prelude.{List, ℕ, ◌+◌, ◌*◌, get_or}
use Rattle.model.specs.Table.{Entry}

-- entry i of a table: its words 5i to 5i + 4
abbrev pub entry_at : List ℕ → ℕ → Entry
entry_at words i =
    record {
      row = get_or words (i * 5) 0;
      known = get_or words (i * 5 + 1) 0;
      values = get_or words (i * 5 + 2) 0;
      tick = get_or words (i * 5 + 3) 0;
      place = get_or words (i * 5 + 4) 0;
    }
