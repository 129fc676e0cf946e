-- A plan planned into lent bytes: the answer, and what the bytes lent for the table, the frame list and the totals hold
-- afterwards. A word is four bytes, the lowest first.
-- Assumes nothing.
use Rattle.std.specs.Prelude.{Result as AnswerOr, Ok, Err, ℕ, ◌*◌, ◌≡◌, List, ◌∷◌, length, take}
use Rattle.lists.specs.Front.{front}
use Rattle.model.specs.Table.{Answer, turned_down, made, Result, entry_words, frame_words}
use Rattle.c_words.specs.Bytes.{bytes_of}

-- the answer in memory: how many bytes the table has, or the number of the refusal
unfoldable pub put_of : Answer → AnswerOr ℕ ℕ
put_of (turned_down n) = Err n
put_of (made r) = Ok (4 * length (entry_words r.entries))

-- the totals: the words of the table and of the frame list, the worst delay, and the pass-over count of each node, in
-- node order
unfoldable pub totals_of : Result → List ℕ
totals_of r = length (entry_words r.entries) ∷ length (frame_words r.frames) ∷ r.delay ∷ r.passed

-- what the lent bytes hold afterwards
unfoldable pub table_bytes_after : Answer → List ℕ → List ℕ
table_bytes_after (turned_down n) lent = lent
table_bytes_after (made r) lent = front (bytes_of (entry_words r.entries)) lent

unfoldable pub frame_bytes_after : Answer → List ℕ → List ℕ
frame_bytes_after (turned_down n) lent = lent
frame_bytes_after (made r) lent = front (bytes_of (frame_words r.frames)) lent

unfoldable pub totals_after : Answer → List ℕ → List ℕ
totals_after (turned_down n) lent = lent
totals_after (made r) lent = front (take (length lent) (bytes_of (totals_of r))) lent

-- an answer of the planner, put into lent bytes
pub record Filled (a : Answer) (table frames totals table-now frames-now totals-now : List ℕ) : Type 0 where
  pub table_bytes : table-now ≡ table_bytes_after a table
  pub frame_bytes : frames-now ≡ frame_bytes_after a frames
  pub total_bytes : totals-now ≡ totals_after a totals
