-- `plan_layout::values` meets its contract: before turn k the first k are filled, and the rest is the combination
-- without its lowest k bits.
use mathlib.Core.Path.{◌≡◌}
use Prim.Native.Nat.{◌/◌, ◌^◌, ◌≤◌}
use Rattle.lists.specs.Lists.{fill}
use Rattle.plan_layout.specs.Unmet.{value_of}
use Rattle.plan_layout.proofs.unmet_whens.values.Given as goal

abbrev pub invariant-loop-k : goal.invariant-loop-k
invariant-loop-k l = (l.k ≤ 6) × (l.rest ≡ l.combination / 2 ^ l.k) × (l.value ≡ fill 6 (value_of l.combination) l.k)
