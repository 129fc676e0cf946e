-- Bytes put into lent bytes from a place on: those that lie within are stored, and all are counted.
-- Assumes nothing.
use Rattle.std.specs.Prelude.{ℕ, ◌+◌, ◌<◌, ◌^◌, ◌≡◌, List, length}
use Rattle.std.proofs.lemmas.List.Edits.{sets}

-- a count goes on from `at` over some bytes
pub record Counts (at : ℕ) (bytes : List ℕ) : Type 0 where
  pub fits : at + length bytes < 2 ^ 64

-- what is known after some bytes are put: where they end, and what the lent bytes hold
pub record Put (entry exit : List ℕ) (at end : ℕ) (bytes : List ℕ) : Type 0 where
  pub count : end ≡ at + length bytes
  pub holds : exit ≡ sets entry at bytes
