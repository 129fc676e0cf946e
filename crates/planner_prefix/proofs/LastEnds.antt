-- One turn of the loop that finds the last ends, and where a source's counts stand.
-- Assumes nothing.
use Rattle.std.specs.Prelude.{if◌then◌else◌}
use mathlib.Core.Path.{◌≡◌, sym, ap, ◌∙◌}
use mathlib.Core.Bool.{Bool, true, false}
use mathlib.Core.List.{List}
use Prim.Native.Nat.{ℕ, ◌+◌, ◌*◌, ◌≤◌, ◌<◌, max}
use native.Mathlib.Numerals.{add-one}
use native.Mathlib.Omega.{arith}
use lib.Dec.{eqb}
use lib.ListN.{get_or, set}
use Rattle.planner_prefix.specs.declared.prefix.Source.{Source}
use Rattle.planner_prefix.specs.Prefix.{no_value, ends_below, counts_at}

-- one turn of the loop
pub ends_next : (node rows : List ℕ) (i n m : ℕ) (ends : List ℕ) → ends ≡ ends_below node rows i → n ≡ get_or node i 0 → m ≡ max (get_or ends n 0) (get_or rows i 0) →
    set ends n m ≡ ends_below node rows (i + 1)
unfolding ends_below
ends_next node rows i n m ends e q r =
    ap (set ends n) r
    ∙ ap (λ (k : ℕ). set ends k (max (get_or ends k 0) (get_or rows i 0))) q
    ∙ ap (λ (xs : List ℕ). set xs (get_or node i 0) (max (get_or xs (get_or node i 0) 0) (get_or rows i 0))) e
    ∙ ap (ends_below node rows) (sym (add-one i))

-- the counts of a source stand among the notes
pub counts_within : (s : Source) → s.from < 64 → s.condition < 6 → counts_at s ≤ 3576
unfolding counts_at
counts_within s l m = at (eqb s.clock no_value)
  where
    at : (t : Bool) → (if t then s.from * 56 + 48 else s.from * 56 + s.condition * 8) ≤ 3576
    at true = omega arith
    at false = omega arith
