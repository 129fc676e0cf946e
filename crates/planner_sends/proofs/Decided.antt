-- The broadcasts of a node that are ready and not sent are, of the conditions that its processes decide, those whose
-- broadcasts are.
-- Assumes nothing.
use mathlib.Core.Path.{◌≡◌, sym, ap, ◌∙◌}
use mathlib.Core.Bool.{◌&&◌, and_assoc}
use Prim.Native.Nat.{ℕ, ◌<◌}
use lib.Dec.{eqb}
use lib.ListN.{get_or}
use Rattle.bitset.specs.Masks.{passing, mask_from}
use Rattle.bitset.proofs.Built.{built_same}
use Rattle.bitset.proofs.Passing.{passing_built}
use Rattle.plan_index.specs.declared.PlanIndex.{PlanIndex}
use Rattle.plan_index.specs.Index.{Bounded}
use Rattle.log_rows.specs.Rows.{Rows}
use Rattle.planner_sends.specs.Packing.{ready_by, broadcasts_by}
use Rattle.planner_sends.specs.Pending.{ready_to_broadcast, waits_to_broadcast}
use Rattle.planner_sends.specs.NextSends.{Timed}

module _ (b : PlanIndex) (s : Rows) (n u : ℕ) where
  -- a broadcast that is ready is one of the node where a process of the node decides its condition
  decided_ready : (k : ℕ) → (eqb (get_or b.node (get_or b.decider k 0) 0) n && ready_to_broadcast b s u k) ≡ waits_to_broadcast b s n u k
  unfolding ready_by broadcasts_by
  decided_ready k = sym (and_assoc (eqb (get_or b.node (get_or b.decider k 0) 0) n) _ _)

  pub decided_pending : n < b.slots → Bounded b → Timed b →
      passing (ready_to_broadcast b s u) (get_or b.decides n 0) ≡ mask_from (waits_to_broadcast b s n u) 0 b.conditions
  decided_pending l few t =
      ap (passing (ready_to_broadcast b s u)) (t.decided n l)
      ∙ passing_built (ready_to_broadcast b s u) (λ k. eqb (get_or b.node (get_or b.decider k 0) 0) n) b.conditions few.few_conditions
      ∙ built_same _ (waits_to_broadcast b s n u) 0 b.conditions (λ k lo hi. decided_ready k)
