-- A loop over the numbers from a up to before n that looks for one that passes a test.
-- Assumes nothing.
use mathlib.Core.Path.{◌≡◌, ap, ◌∙◌}
use mathlib.Core.Bool.{Bool, true, false}
use Prim.Native.Nat.{ℕ, ◌+◌, ◌≤◌, ◌<◌}
use Rattle.lists.specs.Lists.{any}
use Rattle.lists.proofs.Loops.{upfrom_next, upfrom_end}
use Rattle.checker_rows.specs.MetArrays.{some}

module _ (f : ℕ → Bool) (n i : ℕ) where
  pub some_next : i < n → f i ≡ false → some f i n ≡ some f (i + 1) n
  some_next l e = ap (any f) (upfrom_next n i l) ∙ rw e

  pub some_found : i < n → f i ≡ true → some f i n ≡ true
  some_found l e = ap (any f) (upfrom_next n i l) ∙ rw e

  pub some_none : n ≤ i → some f i n ≡ false
  some_none l = ap (any f) (upfrom_end n i l)
