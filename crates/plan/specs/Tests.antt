-- Refusals 2 and 9 as the code tests them: over the counts of a plan, and of one edge. The other refusals are tested
-- as the model states them.
-- Assumes nothing.
use Rattle.std.specs.Prelude.{ℕ, Bool, not, ◌&&◌, ◌||◌, List, eqb, ltb, get_or}
use Rattle.model.specs.Plan.{Lines, Edge, process}
use Rattle.model.specs.Bus.{slot_of}
use Rattle.model.specs.Refusals.{outside}

-- number i of an array
abbrev pub at : List ℕ → ℕ → ℕ
at xs i = get_or xs i 0

-- 2
unfoldable pub counts_test : ℕ → ℕ → ℕ → ℕ → Bool
counts_test slots processes conditions edges = outside 1 8 slots || outside 1 64 processes || ltb 6 conditions || ltb 128 edges

-- 9: the message of an edge is between nodes, and longer than the slot of its sender
unfoldable pub too_long_message : Lines → Edge → Bool
too_long_message p e =
    not (eqb (process p e.from).node (process p e.to).node) && ltb (slot_of p (process p e.from).node).bytes e.bytes
