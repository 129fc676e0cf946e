-- What the planner made, put into lent bytes: the table, the frame list and the totals. A word is four bytes, the
-- lowest first.
-- Assumes nothing.
use Rattle.std.specs.Prelude.{◌≡◌, List, ◌∷◌, ℕ, length, take}
use Rattle.lists.specs.Front.{front}
use Rattle.planner_table.specs.declared.Made.{Made}
use Rattle.c_words.specs.Bytes.{bytes_of}

-- what the planner made, at the front of some words, and the counts of the nodes, put into lent bytes
pub record Stored (m : Made) (words framewords counts table frames totals table-now frames-now totals-now : List ℕ) : Type 0 where
  pub table_bytes : table-now ≡ front (bytes_of (take m.words words)) table
  pub frame_bytes : frames-now ≡ front (bytes_of (take m.framewords framewords)) frames
  pub total_bytes : totals-now ≡ front (take (length totals) (bytes_of (m.words ∷ m.framewords ∷ m.delay ∷ counts))) totals
