-- `listing_entries::put_each` meets its contract: before turn k the conditions from k on are still to be stored. The
-- bits of the word halve, so that k and the word together never grow.
use Prim.Native.Nat.{◌+◌, ◌-◌, ◌≤◌}
use Rattle.listing_count.specs.Parts.{values_from}
use Rattle.listing_bytes.specs.Going.{Going}
use Rattle.listing_entries.proofs.column.put_each.Given as goal

abbrev pub invariant-loop-k : goal.invariant-loop-k
invariant-loop-k l = (l.k + l.x ≤ l.known) × Going l.initial.out l.out l.at l.end (values_from l.conditions l.known l.values 0) (values_from (l.conditions - l.k) l.x l.v l.k)
