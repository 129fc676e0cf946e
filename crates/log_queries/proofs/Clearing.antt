-- The numbers of `run` set to 0: what the rows then are.
-- Assumes nothing.
use mathlib.Core.Path.{◌≡◌}
use mathlib.Core.List.{List, ◌++◌}
use Prim.Native.Nat.{ℕ}
use lib.ListN.{replicate, take, drop}
use Rattle.std.proofs.lemmas.List.{drop-drop}
use Rattle.lists.specs.Cut.{cut}
use Rattle.log_rows.specs.Rows.{rows_of, with_run}

-- zeros in front of what stood behind the first 64 numbers
pub run_cleared : (s : List ℕ) → rows_of (replicate 64 0 ++ drop 64 s) ≡ with_run (replicate 64 0) (rows_of s)
unfolding rows_of cut
run_cleared s =
    λ i. record {
      run = replicate 64 0;
      unmet = take 128 (drop 64 s);
      comes = take 198 (drop-drop 128 64 s i);
      place = take 198 (drop-drop 326 64 s i);
    }
