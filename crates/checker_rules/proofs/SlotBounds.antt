-- What refusal 13 leaves of the arrays that hold the entries that a combination meets: the bounds that 17 asks for.
-- Assumes nothing.
use Prim.Native.Nat.{◌<◌}
use native.Mathlib.Omega.{arith}
use lib.ListN.{length, get_or}
use Rattle.log_queries.proofs.Placing.{placed_is}
use Rattle.checker_rows.proofs.MetPlan.{MetPlan}
use Rattle.checker_rows.proofs.MetBounds.{node_in, met_row}
use Rattle.checker_rules.specs.Rules.{Slotted}

module _ (m : MetPlan) where
  open m use {plan as p, index as b, indexed as w, comes}

  pub slotted : Slotted b comes
  slotted =
      record {
        round_one = omega (arith, w.round_one);
        round_most = omega (arith, w.round_most);
        reciprocals = w.reciprocals;
        offsets = λ r n.
            let k = met_row m r (placed_is comes r n) in
            let l : get_or b.sender r 0 < length p.slots = omega (arith, w.senders_of r k.0, node_in p m.sound r k.0) in
            omega (arith, w.offset_most (get_or b.sender r 0) l, w.round_most);
      }
