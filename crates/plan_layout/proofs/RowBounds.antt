-- How large the numbers of a plan index's arrays are, whatever the arrays that they are made of.
-- Assumes nothing.
use Rattle.std.specs.Prelude.{if◌then◌else◌}
use mathlib.Core.Path.{◌≡◌}
use mathlib.Core.Logic.{◌⊎◌, inl, inr}
use mathlib.Core.Bool.{Bool, true, false}
use mathlib.Core.List.{List}
use Prim.Native.Nat.{ℕ, ◌-◌, ◌≤◌, ◌<◌}
use native.Mathlib.Omega.{arith}
use lib.Dec.{ltb}
use borrow.Author.Tests.{ltb-true}
use Rattle.lists.proofs.Tests.{two}
use Rattle.lists.proofs.Fill.{fill_all}
use Rattle.plan.specs.Tests.{at}
use Rattle.plan_layout.specs.RowArrays.{process_of_row, senders_by_row}

-- a row belongs to a process
pub process_below : (from decider : List ℕ) (processes conditionrow r : ℕ) → processes ≤ 64 → ((k : ℕ) → at from k < 64) → ((k : ℕ) → at decider k < 64) →
    process_of_row from decider processes conditionrow r < 64
process_below from decider processes conditionrow r u f d = by (two (ltb r processes)) (ltb r conditionrow)
  where
    by : (ltb r processes ≡ true) ⊎ (ltb r processes ≡ false) → (b : Bool) →
        (if ltb r processes then r else if b then at from (r - processes) else at decider (r - conditionrow)) < 64
    by (inl e) b = let l = ltb-true r processes e in rw e (omega arith)
    by (inr e) true = rw e (f (r - processes))
    by (inr e) false = rw e (d (r - conditionrow))

-- the node of each row
pub senders_small : (from decider node : List ℕ) (processes conditionrow rows : ℕ) → rows ≤ 198 → ((i : ℕ) → at node i < 8) → (r : ℕ) →
    at (senders_by_row from decider node processes conditionrow rows) r < 8
unfolding senders_by_row
senders_small from decider node processes conditionrow rows u h =
    fill_all (λ x. x < 8) 198 (λ r. at node (process_of_row from decider processes conditionrow r)) rows u (λ k l. h (process_of_row from decider processes conditionrow k)) (omega arith)
