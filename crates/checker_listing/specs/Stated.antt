-- What a listing states, as it stands in memory.
-- Assumes nothing.
use Rattle.std.specs.Prelude.{List, ℕ}
use Rattle.model.specs.Table.{Result, entries_of, frames_of}

-- five words to an entry, three to a frame, the delay and the pass-over counts of the nodes
unfoldable pub stated_in : List ℕ → List ℕ → ℕ → List ℕ → Result
stated_in table frames delay counts =
    record { delay = delay; passed = counts; entries = entries_of table; frames = frames_of frames }
