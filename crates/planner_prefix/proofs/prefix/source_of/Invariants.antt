-- `planner_prefix::source_of` meets its contract: before turn k the best source of the conditions below k is known.
use mathlib.Core.Path.{◌≡◌}
use Prim.Native.Nat.{◌≤◌, ◌/◌, ◌^◌}
use Rattle.planner_prefix.specs.Prefix.{source_among}
use Rattle.planner_prefix.proofs.prefix.source_of.Given as goal

abbrev pub invariant-loop-k : goal.invariant-loop-k
invariant-loop-k l = (l.k ≤ l.conditions) × (l.power ≡ 2 ^ l.k) × (l.rest ≡ l.c / 2 ^ l.k) × (l.best ≡ source_among l.comes l.conditionrow l.c l.k)
